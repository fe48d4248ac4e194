use Rattle.std.proofs.Common.{◌≡◌, length, map, All}
use Rattle.lk_store.specs.Contents.{level_at, tree_at, Extends}
use Rattle.lk_env.specs.Units.{type_at, IsTypeIn}
use Rattle.lk_block.specs.Parts.{lists_at, AreListsIn}
use Rattle.lk_block.proofs.Firsts.{LeadsTypes}
use Rattle.lk_block.proofs.types.more_types.Given as goal

abbrev pub invariant-types : goal.invariant-types
invariant-types g l =
    let before = g.A.Terms.contents l.fn.asks in
    let now = g.A.Terms.contents l.asks in
    record {
      keeps : Extends before now;
      same_standing : g.A.Asks.standing l.asks ≡ g.A.Asks.standing l.fn.asks;
      rest_in : All (IsTypeIn before) l.rest;
      lists_in : AreListsIn now l.indices.items;
      leads : LeadsTypes (g.A.Asks.standing l.fn.asks) (map (tree_at before) l.fn.parameters) (level_at before l.fn.level) (lists_at before l.fn.indices.items) (map (type_at before) l.fn.types) (g.A.Asks.left l.fn.asks)
          (lists_at now l.indices.items) (map (type_at before) l.rest) (g.A.Asks.left l.asks);
    }

abbrev pub decreases-types : goal.decreases-types
decreases-types g l = length l.rest
