use Rattle.std.proofs.Common.{◌≡◌, ◌<◌, length, map, All}
use Rattle.lk_store.specs.Contents.{tree_at, Extends}
use Rattle.lk_block.proofs.Overs.{LeadsOver}
use Rattle.lk_block.proofs.over.over.Given as goal

abbrev pub invariant-parameters : goal.invariant-parameters
invariant-parameters g l =
    let before = g.A.Terms.contents l.fn.asks in
    let now = g.A.Terms.contents l.asks in
    record {
      keeps : Extends before now;
      same_standing : g.A.Asks.standing l.asks ≡ g.A.Asks.standing l.fn.asks;
      more_in : All (λ x. x < length before.trees) l.more;
      rest_in : l.rest < length now.trees;
      leads : LeadsOver (g.A.Asks.standing l.fn.asks) (map (tree_at before) l.fn.parameters) (tree_at before l.fn.e) (g.A.Asks.left l.fn.asks) (map (tree_at before) l.more) (tree_at now l.rest) (g.A.Asks.left l.asks);
    }

abbrev pub decreases-parameters : goal.decreases-parameters
decreases-parameters g l = length l.more
