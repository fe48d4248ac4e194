use Rattle.std.proofs.Common.{length}
use Rattle.lk_store.specs.Store.{contents_of}
use Rattle.lk_book.proofs.Parted.{ArePartsMade}
use Rattle.lk_book.proofs.rounds.units_of_parts.Given as goal

abbrev pub invariant-loop-members : goal.invariant-loop-members
invariant-loop-members l = ArePartsMade (contents_of l.fn.store) l.fn.parts.items l.parts.items l.units.items

abbrev pub decreases-loop-members : goal.decreases-loop-members
decreases-loop-members l = length l.parts.items
