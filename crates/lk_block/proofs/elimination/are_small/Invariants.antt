use Rattle.std.proofs.Common.{◌≡◌, length, map, All}
use Rattle.lk_inductive.specs.BlockSteps.{small_steps}
use Rattle.lk_store.specs.Contents.{tree_at, Extends}
use Rattle.lk_block.specs.Shapes.{field_at, IsFieldIn}
use Rattle.lk_declaration.proofs.Leading.{Leads}
use Rattle.lk_block.proofs.elimination.are_small.Given as goal

abbrev pub invariant-fields : goal.invariant-fields
invariant-fields g l =
    let before = g.A.Terms.contents l.fn.asks in
    let is = map (tree_at before) l.fn.indices in
    record {
      keeps : Extends before (g.A.Terms.contents l.asks);
      same_standing : g.A.Asks.standing l.asks ≡ g.A.Asks.standing l.fn.asks;
      rest_in : All (IsFieldIn before) l.rest;
      leads : Leads (g.A.Asks.standing l.fn.asks) (small_steps is (map (field_at before) l.fn.fields)) (g.A.Asks.left l.fn.asks) (small_steps is (map (field_at before) l.rest)) (g.A.Asks.left l.asks);
    }

abbrev pub decreases-fields : goal.decreases-fields
decreases-fields g l = length l.rest
