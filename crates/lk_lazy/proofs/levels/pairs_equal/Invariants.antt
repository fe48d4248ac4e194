use Rattle.std.proofs.Common.{◌≡◌, ◌<◌, length}
use Rattle.lk_questions.specs.Levels.{complete_test, level_pairs_equal}
use Rattle.lk_store.specs.Contents.{list_at}
use Rattle.lk_lazy.proofs.levels.pairs_equal.Given as goal

abbrev pub invariant-pairs : goal.invariant-pairs
invariant-pairs g l =
    let c = g.T.Terms.contents l.terms in
    record {
      left_in : l.left < length c.lists;
      right_in : l.right < length c.lists;
      same : level_pairs_equal complete_test (list_at c l.left) (list_at c l.right) ≡ level_pairs_equal complete_test (list_at c l.a) (list_at c l.b);
    }

abbrev pub decreases-pairs : goal.decreases-pairs
decreases-pairs g l = length (list_at (g.T.Terms.contents l.terms) l.left)
