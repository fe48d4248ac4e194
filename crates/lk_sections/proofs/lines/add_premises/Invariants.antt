use Rattle.std.proofs.Common.{◌≡◌, ◌++◌, length}
use Rattle.lk_trim.specs.Written.{fields}
use Rattle.lk_sections.specs.Lines.{numbers_from}
use Rattle.lk_sections.proofs.lines.add_premises.Given as goal

abbrev pub invariant-loop-place : goal.invariant-loop-place
invariant-loop-place l = l.out.items ++ fields (numbers_from l.first l.rest) ≡ l.fn.out.items ++ fields (numbers_from l.first l.places)

abbrev pub decreases-loop-place : goal.decreases-loop-place
decreases-loop-place l = length l.rest
