use Rattle.std.proofs.Common.{◌≡◌, ◌<◌, [], length}
use Rattle.std.specs.Prelude.{All}
use Rattle.lk_written.specs.Equal.{spines_equal}
use Rattle.lk_store.specs.Contents.{tree_at}
use Rattle.lk_spine.specs.Reading.{left_depth}
use Rattle.lk_premises.specs.Claims.{claims_at}
use Rattle.lk_replay_equal.specs.Pairs.{pairs_at, IsPairIn}
use Rattle.lk_replay_equal.proofs.spines.equal_spines.Given as goal

abbrev pub invariant-down : goal.invariant-down
invariant-down g l =
    let c = g.T.Terms.contents l.terms in
    let ps = claims_at c l.claims in
    record {
      first_in : l.first < length c.trees;
      second_in : l.second < length c.trees;
      pairs_in : All (IsPairIn c) l.pairs.items;
      is : spines_equal ps l.left (tree_at c l.first) (tree_at c l.second) (pairs_at c l.pairs.items)
          ≡ spines_equal ps l.left (tree_at c l.fn.a) (tree_at c l.fn.b) [];
    }

abbrev pub decreases-down : goal.decreases-down
decreases-down g l = left_depth (tree_at (g.T.Terms.contents l.terms) l.first)
