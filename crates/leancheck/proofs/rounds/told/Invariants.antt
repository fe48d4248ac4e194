use Rattle.std.proofs.Common.{length}
use Rattle.lk_book.specs.Reading.{parts_at}
use Rattle.leancheck.proofs.Changes.{IsTellingOn}
use Rattle.leancheck.proofs.rounds.told.Given as goal

abbrev pub invariant-loop-part : goal.invariant-loop-part
invariant-loop-part g l = IsTellingOn (g.C.Checks.budget_of l.checks) l.fn.rounds.base (parts_at l.fn.rounds) l.parts.items l.telling

abbrev pub decreases-loop-part : goal.decreases-loop-part
decreases-loop-part g l = length l.parts.items
