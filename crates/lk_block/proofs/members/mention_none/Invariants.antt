use Rattle.std.proofs.Common.{◌≡◌, ◌<◌, length, map, All}
use Rattle.lk_store.specs.Contents.{tree_at}
use Rattle.lk_mentions.specs.Names.{names_at}
use Rattle.lk_mentions.specs.Walks.{AreClear}
use Rattle.lk_inductive.specs.BlockSteps.{mention_none}
use Rattle.lk_block.proofs.members.mention_none.Given as goal

abbrev pub invariant-trees : goal.invariant-trees
invariant-trees g l =
    let c = g.T.Terms.contents l.terms in
    record {
      rest_in : All (λ x. x < length c.trees) l.rest;
      met : AreClear c l.names l.met;
      same : mention_none (names_at c l.names) (map (tree_at c) l.trees) ≡ mention_none (names_at c l.names) (map (tree_at c) l.rest);
    }

abbrev pub decreases-trees : goal.decreases-trees
decreases-trees g l = length l.rest
