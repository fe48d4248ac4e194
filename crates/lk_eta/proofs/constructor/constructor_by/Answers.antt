use Rattle.std.proofs.Common.{◌≡◌, Some, sym, subst}
use Rattle.lk_store.specs.Contents.{Extends}
use Rattle.lk_store.specs.Store.{contents_of}
use Rattle.lk_env.specs.Entries.{plain_entry}
use Rattle.lk_eta.proofs.Full.{stored, not_stored}
use Rattle.lk_eta.proofs.constructor.constructor_by.Goals as goal

pub returns-in-Some : goal.returns-in-Some
returns-in-Some g c e h =
    let here = subst (λ l. plain_entry (contents_of l.tables) l.units c.args.entry ≡ Some e) (sym c.scope.ensures.is) h in
    let over = subst (λ l. Extends (contents_of l.tables) (g.L.Terms.contents c.args.looks.now)) (sym c.scope.ensures.is) c.scope.ensures.over in
    stored (g.L.Scope.Lends.lent c.scope.result.now) (g.L.Terms.contents c.args.looks.now) over c.in-Some.ty.now c.in-Some.constructor.now c.in-Some.ensures.known.0 _ (c.in-Some.ensures.value e here)

pub returns-in-None : goal.returns-in-None
returns-in-None g c e h =
    let here = subst (λ l. plain_entry (contents_of l.tables) l.units c.args.entry ≡ Some e) (sym c.scope.ensures.is) h in
    not_stored (g.L.Terms.contents c.args.looks.now) _ (c.in-None.ensures.value e here)
