use Rattle.std.proofs.Common.{◌≡◌, ◌<◌, length}
use Rattle.lk_questions.specs.Tests.{same_levels}
use Rattle.lk_store.specs.Contents.{list_at}
use Rattle.lk_replay_equal.proofs.levels.same_levels.Given as goal

abbrev pub invariant-levels : goal.invariant-levels
invariant-levels g l =
    let c = g.T.Terms.contents l.terms in
    record {
      left_in : l.left < length c.lists;
      right_in : l.right < length c.lists;
      is : same_levels (list_at c l.left) (list_at c l.right)
          ≡ same_levels (list_at c l.fn.a) (list_at c l.fn.b);
    }

abbrev pub decreases-levels : goal.decreases-levels
decreases-levels g l = length (list_at (g.T.Terms.contents l.terms) l.left)
