use Rattle.std.proofs.Common.{ℕ, List, length}
use mathlib.Core.List.{IsPrefix}
use Rattle.lk_callers.specs.declared.turns.Turns.{Turns}
use Rattle.lk_callers.specs.Answered.{AreCalled, IsGathered}
use Rattle.lk_callers.proofs.gathering.gather.Given as goal

abbrev pub invariant-loop-one : goal.invariant-loop-one
invariant-loop-one g l = record {
  begins : IsPrefix l.called.items l.fn.called.items;
  all : (texts : List (List ℕ)) (t : Turns) (budget : ℕ) → AreCalled g.T.Reads.stated texts t budget (length texts) l.fn.called.items
      → IsGathered g.T.Reads.stated texts t budget (length l.called.items) (length l.fn.called.items) l.all;
}

abbrev pub decreases-loop-one : goal.decreases-loop-one
decreases-loop-one g l = length l.called.items
