use Rattle.std.proofs.Common.{◌≡◌, length, map}
use Rattle.lk_tree.specs.Tree.{Tree}
use Rattle.lk_questions.specs.NumberLaws.{laws_hold}
use Rattle.lk_store.specs.Contents.{tree_at, Extends}
use Rattle.lk_declaration.proofs.Leading.{Leads}
use Rattle.lk_laws.specs.Sides.{law_at}
use Rattle.lk_laws.proofs.asking.check_each.Given as goal

abbrev pub invariant-laws : goal.invariant-laws
invariant-laws g l =
    let before = g.A.Terms.contents l.fn.asks in
    record {
      keeps : Extends before (g.A.Terms.contents l.asks);
      stays : g.A.Asks.standing l.asks ≡ g.A.Asks.standing l.fn.asks;
      leads : (v : Tree) → tree_at before l.fn.value ≡ v
          → Leads (g.A.Asks.standing l.fn.asks) (laws_hold (map (law_at v) l.fn.laws))
          (g.A.Asks.left l.fn.asks) (laws_hold (map (law_at v) l.rest)) (g.A.Asks.left l.asks);
    }

abbrev pub decreases-laws : goal.decreases-laws
decreases-laws g l = length l.rest
