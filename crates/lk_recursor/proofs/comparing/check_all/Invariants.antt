use Rattle.std.proofs.Common.{◌≡◌, length, map, All}
use Rattle.lk_store.specs.Contents.{Extends}
use Rattle.lk_env.specs.Units.{recursor_at, IsRecursorIn}
use Rattle.lk_inductive.specs.Compare.{compare_steps}
use Rattle.lk_declaration.proofs.Leading.{Leads}
use Rattle.lk_recursor.specs.Fronts.{own_recursors}
use Rattle.lk_recursor.proofs.comparing.check_all.Given as goal

abbrev pub invariant-stated : goal.invariant-stated
invariant-stated g l =
    let before = g.A.Terms.contents l.fn.asks in
    let all = own_recursors before l.fn.shared.shape.now l.fn.shared.front.now in
    record {
      keeps : Extends before (g.A.Terms.contents l.asks);
      same_standing : g.A.Asks.standing l.asks ≡ g.A.Asks.standing l.fn.asks;
      rest_in : All (IsRecursorIn before) l.rest;
      leads : Leads (g.A.Asks.standing l.fn.asks) (compare_steps all (map (recursor_at before) l.fn.stated)) (g.A.Asks.left l.fn.asks) (compare_steps all (map (recursor_at before) l.rest)) (g.A.Asks.left l.asks);
    }

abbrev pub decreases-stated : goal.decreases-stated
decreases-stated g l = length l.rest
