use Rattle.std.proofs.Common.{◌≡◌, ◌<◌, ◌≤◌, ℕ, [], length, map, All}
use Rattle.lk_store.specs.Contents.{name_at, Extends}
use Rattle.lk_env.specs.Units.{constructor_at, IsConstructorIn}
use Rattle.lk_block.specs.Frames.{frame_at}
use Rattle.lk_block.specs.Shapes.{constructor_shape_at, IsConstructorShapeIn}
use Rattle.lk_block.specs.Constructors.{constructors_form}
use Rattle.lk_declaration.proofs.Leading.{Leads}
use Rattle.lk_block.proofs.constructors.constructors_of.Given as goal

abbrev pub invariant-constructors : goal.invariant-constructors
invariant-constructors g l =
    let before = g.A.Terms.contents l.fn.asks in
    let now = g.A.Terms.contents l.asks in
    record {
      keeps : Extends before now;
      same_standing : g.A.Asks.standing l.asks ≡ g.A.Asks.standing l.fn.asks;
      less : g.A.Asks.left l.asks ≤ g.A.Asks.left l.fn.asks;
      rest_in : All (IsConstructorIn before) l.rest;
      shapes_in : All (IsConstructorShapeIn now) l.shapes.items;
      leads : (fuel : ℕ) → g.A.Asks.left l.fn.asks < fuel → Leads (g.A.Asks.standing l.fn.asks) (constructors_form [] fuel (frame_at before l.frame) (name_at before l.parent) (map (constructor_at before) l.fn.constructors)) (g.A.Asks.left l.fn.asks)
          (constructors_form (map (constructor_shape_at now) l.shapes.items) fuel (frame_at before l.frame) (name_at before l.parent) (map (constructor_at before) l.rest)) (g.A.Asks.left l.asks);
    }

abbrev pub decreases-constructors : goal.decreases-constructors
decreases-constructors g l = length l.rest
