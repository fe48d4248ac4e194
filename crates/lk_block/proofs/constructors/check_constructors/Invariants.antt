use Rattle.std.proofs.Common.{◌≡◌, ◌<◌, ◌≤◌, ℕ, [], length, map, All}
use Rattle.std.specs.Prelude.{reverse}
use Rattle.lk_store.specs.Contents.{Extends}
use Rattle.lk_env.specs.Units.{type_at, IsTypeIn}
use Rattle.lk_block.specs.Frames.{frame_at}
use Rattle.lk_block.specs.Parts.{lists_at, AreListsIn}
use Rattle.lk_block.specs.Shapes.{type_shape_at, IsTypeShapeIn}
use Rattle.lk_block.specs.Constructors.{shapes_form}
use Rattle.lk_declaration.proofs.Leading.{Leads}
use Rattle.lk_block.proofs.constructors.check_constructors.Given as goal

-- the indices that wait stand in reverse
abbrev pub invariant-types : goal.invariant-types
invariant-types g l =
    let before = g.A.Terms.contents l.fn.asks in
    let now = g.A.Terms.contents l.asks in
    record {
      keeps : Extends before now;
      same_standing : g.A.Asks.standing l.asks ≡ g.A.Asks.standing l.fn.asks;
      less : g.A.Asks.left l.asks ≤ g.A.Asks.left l.fn.asks;
      rest_in : All (IsTypeIn before) l.rest;
      waiting_in : AreListsIn before (reverse l.waiting.items);
      shapes_in : All (IsTypeShapeIn now) l.shapes.items;
      leads : (fuel : ℕ) → g.A.Asks.left l.fn.asks < fuel → Leads (g.A.Asks.standing l.fn.asks) (shapes_form [] fuel (frame_at before l.frame) (map (type_at before) l.fn.types) (lists_at before l.fn.indices.items)) (g.A.Asks.left l.fn.asks)
          (shapes_form (map (type_shape_at now) l.shapes.items) fuel (frame_at before l.frame) (map (type_at before) l.rest) (lists_at before (reverse l.waiting.items))) (g.A.Asks.left l.asks);
    }

abbrev pub decreases-types : goal.decreases-types
decreases-types g l = length l.rest
