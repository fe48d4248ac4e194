use Rattle.std.proofs.Common.{◌≡◌, ◌<◌, length}
use Rattle.lk_store.specs.Contents.{tree_at}
use Rattle.lk_spine.specs.Reading.{left_depth}
use Rattle.lk_premises.specs.Applied.{are_headed}
use Rattle.lk_premises.proofs.applied.are_applied.Given as goal

abbrev pub invariant-down : goal.invariant-down
invariant-down g l =
    let c = g.T.Terms.contents l.terms in
    record {
      first_in : l.first < length c.trees;
      second_in : l.second < length c.trees;
      is : are_headed (tree_at c l.f) (tree_at c l.g) (tree_at c l.first) (tree_at c l.second)
          ≡ are_headed (tree_at c l.f) (tree_at c l.g) (tree_at c l.fn.a) (tree_at c l.fn.b);
    }

abbrev pub decreases-down : goal.decreases-down
decreases-down g l = left_depth (tree_at (g.T.Terms.contents l.terms) l.first)
