use Rattle.std.proofs.Common.{◌≡◌, map, sym, ◌∙◌}
use Rattle.lk_token.specs.Fields.{fields_of}
use Rattle.lk_lines.proofs.Counting.{numbers_done}
use Rattle.lk_lines.proofs.steps.numbers.Goals as goal

pub returns : goal.returns
returns g c =
    let view = g.N.FileNumber.view in
    let e : view.values c.loop-left.found.items ≡ map view.value c.loop-left.found.items = g.met.N.FileNumber.each c.loop-left.found.items in
    rw e (sym c.loop-left.invariant ∙ numbers_done view.limit c.loop-left.left (map view.value c.loop-left.found.items) (fields_of c.loop-left.rest.now) c.loop-left-test.false)
