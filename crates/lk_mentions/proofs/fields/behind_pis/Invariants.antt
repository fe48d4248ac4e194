use Rattle.std.proofs.Common.{◌≡◌, ℕ, ◌<◌, List, length}
use Rattle.lk_tree.specs.Tree.{Name}
use Rattle.lk_rulebook.specs.Structures.{has_plain_fields_after}
use Rattle.lk_store.specs.Contents.{tree_at}
use Rattle.lk_mentions.proofs.fields.behind_pis.Given as goal

abbrev pub invariant-pis : goal.invariant-pis
invariant-pis g l =
    let c = g.T.Terms.contents l.terms in
    record {
      known : l.rest < length c.trees;
      same : (ns : List Name) → (n : ℕ) → has_plain_fields_after ns l.count n (tree_at c l.e) ≡ has_plain_fields_after ns l.left n (tree_at c l.rest);
    }

abbrev pub decreases-pis : goal.decreases-pis
decreases-pis g l = l.left
