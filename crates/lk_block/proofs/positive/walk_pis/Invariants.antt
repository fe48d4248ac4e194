use Rattle.std.proofs.Common.{◌≡◌, ◌<◌, true, length, map}
use Rattle.std.specs.Prelude.{IfSome}
use Rattle.lk_tree.specs.Mentions.{mentions}
use Rattle.lk_store.specs.Contents.{name_at, tree_at, Extends}
use Rattle.lk_block.specs.Shapes.{AreTreesIn}
use Rattle.lk_block.specs.Frames.{frame_at}
use Rattle.lk_block.proofs.Walks.{LeadsWalk}
use Rattle.lk_block.proofs.positive.walk_pis.Given as goal

abbrev pub invariant-walk : goal.invariant-walk
invariant-walk g l =
    let before = g.A.Terms.contents l.fn.asks in
    let now = g.A.Terms.contents l.asks in
    record {
      keeps : Extends before now;
      same_standing : g.A.Asks.standing l.asks ≡ g.A.Asks.standing l.fn.asks;
      arguments_in : AreTreesIn now l.arguments.items;
      rest_in : l.rest < length now.trees;
      known : IfSome l.known (λ k. mentions (map (name_at now) l.frame.names) (tree_at now k) ≡ true);
      known_in : IfSome l.known (λ k. k < length now.trees);
      leads : LeadsWalk (g.A.Asks.standing l.fn.asks) (frame_at before l.frame) l.fn.first (tree_at before l.fn.e) (g.A.Asks.left l.fn.asks) (map (tree_at now) l.arguments.items) l.number (tree_at now l.rest) (g.A.Asks.left l.asks);
    }

abbrev pub decreases-walk : goal.decreases-walk
decreases-walk g l = g.A.Asks.left l.asks
