use Rattle.std.proofs.Common.{◌≡◌, ◌<◌, [], length}
use Rattle.std.specs.Prelude.{All}
use Rattle.lk_written.specs.Premises.{arguments_over as arguments_of}
use Rattle.lk_store.specs.Contents.{tree_at}
use Rattle.lk_spine.specs.Reading.{left_depth}
use Rattle.lk_premises.specs.Spines.{stack_at}
use Rattle.lk_premises.proofs.spines.arguments_over.Given as goal

abbrev pub invariant-down : goal.invariant-down
invariant-down g l =
    let c = g.T.Terms.contents l.terms in
    record {
      known : l.at < length c.trees;
      found_known : All (λ x. x < length c.trees) l.found.items;
      is : arguments_of (tree_at c l.front) (tree_at c l.at) (stack_at c l.found.items)
          ≡ arguments_of (tree_at c l.front) (tree_at c l.fn.e) [];
    }

abbrev pub decreases-down : goal.decreases-down
decreases-down g l = left_depth (tree_at (g.T.Terms.contents l.terms) l.at)
