use Rattle.std.proofs.Common.{◌≡◌, ◌<◌, length}
use Rattle.lk_written.specs.Equal.{is_neutral}
use Rattle.lk_store.specs.Contents.{tree_at}
use Rattle.lk_spine.specs.Reading.{left_depth}
use Rattle.lk_replay_equal.proofs.neutral.is_neutral.Given as goal

abbrev pub invariant-down : goal.invariant-down
invariant-down g l =
    let c = g.T.Terms.contents l.terms in
    record {
      known : l.at < length c.trees;
      is : is_neutral (tree_at c l.at) ≡ is_neutral (tree_at c l.fn.e);
    }

abbrev pub decreases-down : goal.decreases-down
decreases-down g l = left_depth (tree_at (g.T.Terms.contents l.terms) l.at)
