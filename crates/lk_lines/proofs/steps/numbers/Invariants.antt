use Rattle.std.proofs.Common.{◌≡◌, map}
use Rattle.lk_token.specs.Fields.{fields_of}
use Rattle.lk_lines.specs.Reading.{numbers_at}
use Rattle.lk_lines.specs.Told.{after_front}
use Rattle.lk_lines.proofs.steps.numbers.Given as goal

abbrev pub invariant-loop-left : goal.invariant-loop-left
invariant-loop-left g l =
    let view = g.N.FileNumber.view in
    after_front (map view.value l.found.items) (numbers_at view.limit l.left (fields_of l.rest)) ≡ numbers_at view.limit l.count (fields_of l.line)

abbrev pub decreases-loop-left : goal.decreases-loop-left
decreases-loop-left g l = l.left
