use Rattle.std.proofs.Common.{rules, ap}
use Rattle.lk_store.specs.Layers.{layers_contents}
use Rattle.leancheck.proofs.Alone.{alone_at}
use Rattle.leancheck.proofs.tracer.EngineHandleTracer.turn_to.Goals as goal

pub returns : goal.returns
returns g c = record {
  contents = ap (λ t. layers_contents t) c.look_from.ensures.terms;
  over = c.look_from.ensures.over;
  library = c.look_from.ensures.library;
  place =
      let new = c.look_from.new.self in
      alone_at new.scope new.site c.args.self.now.scope.library c.args.unit
      c.look_from.ensures.library c.look_from.ensures.auxiliary
      (ap (λ s. s.unit) c.look_from.ensures.site) (ap (λ s. s.partial) c.look_from.ensures.site);
}
