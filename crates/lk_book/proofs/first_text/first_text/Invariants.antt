use Rattle.std.proofs.Common.{length}
use Rattle.lk_book.proofs.Cuts.{ArePassed}
use Rattle.lk_book.proofs.first_text.first_text.Given as goal

abbrev pub invariant-loop-line : goal.invariant-loop-line
invariant-loop-line l = ArePassed l.bytes l.rest l.count l.lines

abbrev pub decreases-loop-line : goal.decreases-loop-line
decreases-loop-line l = length l.rest
