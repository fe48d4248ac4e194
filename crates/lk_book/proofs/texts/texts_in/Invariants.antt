use Rattle.std.proofs.Common.{length}
use Rattle.lk_book.proofs.Parting.{AreTaken}
use Rattle.lk_book.proofs.texts.texts_in.Given as goal

abbrev pub invariant-texts : goal.invariant-texts
invariant-texts l = AreTaken l.bytes l.texts.items l.lines l.before l.rest

abbrev pub decreases-texts : goal.decreases-texts
decreases-texts l = length l.rest
