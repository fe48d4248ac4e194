use Rattle.std.proofs.Common.{◌≡◌, ◌<◌, length}
use Rattle.lk_rulebook.specs.Structures.{has_plain_fields}
use Rattle.lk_store.specs.Contents.{tree_at}
use Rattle.lk_mentions.specs.Names.{names_at}
use Rattle.lk_mentions.specs.Walks.{AreClear}
use Rattle.lk_mentions.proofs.fields.has_plain_head.Given as goal

abbrev pub invariant-fields : goal.invariant-fields
invariant-fields g l =
    let c = g.T.Terms.contents l.terms in
    record {
      known : l.rest < length c.trees;
      met : AreClear c l.names l.met;
      same : has_plain_fields (names_at c l.names) l.count (tree_at c l.e) ≡ has_plain_fields (names_at c l.names) l.left (tree_at c l.rest);
    }

abbrev pub decreases-fields : goal.decreases-fields
decreases-fields g l = l.left
