use Rattle.std.proofs.Common.{◌≡◌, length, map, All}
use Rattle.lk_store.specs.Contents.{Extends}
use Rattle.lk_env.specs.Units.{constructor_at, IsConstructorIn}
use Rattle.lk_block.specs.Sorts.{constructors_form}
use Rattle.lk_declaration.proofs.Leading.{Leads}
use Rattle.lk_block.proofs.sorts.check_constructors.Given as goal

abbrev pub invariant-constructors : goal.invariant-constructors
invariant-constructors g l =
    let before = g.A.Terms.contents l.fn.asks in
    record {
      keeps : Extends before (g.A.Terms.contents l.asks);
      same_standing : g.A.Asks.standing l.asks ≡ g.A.Asks.standing l.fn.asks;
      rest_in : All (IsConstructorIn before) l.rest;
      leads : Leads (g.A.Asks.standing l.fn.asks) (constructors_form (map (constructor_at before) l.fn.constructors)) (g.A.Asks.left l.fn.asks) (constructors_form (map (constructor_at before) l.rest)) (g.A.Asks.left l.asks);
    }

abbrev pub decreases-constructors : goal.decreases-constructors
decreases-constructors g l = length l.rest
