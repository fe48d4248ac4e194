use Rattle.std.proofs.Common.{◌≡◌, ◌<◌, length, map, All}
use Rattle.lk_store.specs.Contents.{tree_at, Extends}
use Rattle.lk_block.specs.Shapes.{field_at, IsFieldIn}
use Rattle.lk_block.specs.Frames.{frame_at}
use Rattle.lk_block.proofs.EachField.{LeadsFields}
use Rattle.lk_block.proofs.fields.fields.Given as goal

abbrev pub invariant-fields : goal.invariant-fields
invariant-fields g l =
    let before = g.A.Terms.contents l.fn.asks in
    let now = g.A.Terms.contents l.asks in
    record {
      keeps : Extends before now;
      same_standing : g.A.Asks.standing l.asks ≡ g.A.Asks.standing l.fn.asks;
      found_in : All (IsFieldIn now) l.found.items;
      rest_in : l.rest < length now.trees;
      leads : LeadsFields (g.A.Asks.standing l.fn.asks) (frame_at before l.frame) l.fn.first l.fn.count (tree_at before l.fn.e) (g.A.Asks.left l.fn.asks) (map (field_at now) l.found.items) l.number l.left (tree_at now l.rest) (g.A.Asks.left l.asks);
    }

abbrev pub decreases-fields : goal.decreases-fields
decreases-fields g l = l.left
