use Rattle.std.proofs.Common.{rules, ap, ◌∙◌}
use Rattle.lk_env.specs.declared.entry.Partial.TheVariants.{Nothing}
use Rattle.lk_env.specs.declared.entry.Site.{Site}
use Rattle.lk_engine.proofs.derivations.EngineEngineCalls.turn_to.Goals as goal

pub returns : goal.returns
returns g c = record {
  library = search rules;
  auxiliary = search rules;
  site =
      ap (λ u. record { unit = u; partial = c.go_on.new.self.site.partial }) c.go_on.ensures.unit
      ∙ ap (λ p. record { unit = c.args.unit; partial = p }) c.go_on.ensures.partial;
  terms = search rules;
  over = search rules;
}
