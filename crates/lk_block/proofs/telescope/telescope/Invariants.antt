use Rattle.std.proofs.Common.{◌≡◌, ◌<◌, length, map, All}
use Rattle.lk_store.specs.Contents.{tree_at, Extends}
use Rattle.lk_block.proofs.Telescopes.{LeadsOn}
use Rattle.lk_block.proofs.telescope.telescope.Given as goal

abbrev pub invariant-pis : goal.invariant-pis
invariant-pis g l =
    let before = g.A.Terms.contents l.fn.asks in
    let now = g.A.Terms.contents l.asks in
    record {
      keeps : Extends before now;
      same_standing : g.A.Asks.standing l.asks ≡ g.A.Asks.standing l.fn.asks;
      locals_in : All (λ x. x < length now.trees) l.locals.items;
      rest_in : l.rest < length now.trees;
      leads : LeadsOn (g.A.Asks.standing l.fn.asks) l.fn.first l.fn.count (tree_at before l.fn.e) (g.A.Asks.left l.fn.asks) (map (tree_at now) l.locals.items) l.number l.left (tree_at now l.rest) (g.A.Asks.left l.asks);
    }

abbrev pub decreases-pis : goal.decreases-pis
decreases-pis g l = l.left
