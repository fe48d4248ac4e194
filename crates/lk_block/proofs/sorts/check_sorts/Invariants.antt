use Rattle.std.proofs.Common.{◌≡◌, length, map, All}
use Rattle.lk_store.specs.Contents.{Extends}
use Rattle.lk_env.specs.Units.{type_at, IsTypeIn}
use Rattle.lk_block.specs.Sorts.{sorts_form}
use Rattle.lk_declaration.proofs.Leading.{Leads}
use Rattle.lk_block.proofs.sorts.check_sorts.Given as goal

abbrev pub invariant-types : goal.invariant-types
invariant-types g l =
    let before = g.A.Terms.contents l.fn.asks in
    record {
      keeps : Extends before (g.A.Terms.contents l.asks);
      same_standing : g.A.Asks.standing l.asks ≡ g.A.Asks.standing l.fn.asks;
      rest_in : All (IsTypeIn before) l.rest;
      leads : Leads (g.A.Asks.standing l.fn.asks) (sorts_form (map (type_at before) l.fn.types)) (g.A.Asks.left l.fn.asks) (sorts_form (map (type_at before) l.rest)) (g.A.Asks.left l.asks);
    }

abbrev pub decreases-types : goal.decreases-types
decreases-types g l = length l.rest
