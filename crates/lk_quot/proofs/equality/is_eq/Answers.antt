use Rattle.std.proofs.Common.{◌≡◌, Some, sym, subst, ◌∙◌}
use Rattle.lk_rulebook.specs.Place.{Entry as PlainEntry}
use Rattle.lk_questions.specs.QuotientUnits.{is_eq}
use Rattle.lk_store.specs.Contents.{Extends}
use Rattle.lk_store.specs.Store.{contents_of}
use Rattle.lk_env.specs.Entries.{plain_entry}
use Rattle.lk_env.specs.StoredLibrary.{StoredLibrary}
use Rattle.lk_ask.specs.Looks.{entry_at}
use Rattle.lk_quot.specs.Equality.{is_eq_shape}
use Rattle.lk_quot.proofs.EqShapes.{eq_shape_steady, answered_as}
use Rattle.lk_quot.proofs.equality.is_eq.Goals as goal

pub returns-in-Some-clause-ok : goal.returns-in-Some-clause-ok
returns-in-Some-clause-ok g c =
    let basis = (g.L.Looks.sight (g.L.Terms.rest c.args.looks.now)).basis in
    let d = g.L.Terms.contents c.args.looks.now in
    let base = contents_of (g.L.Scope.Lends.lent c.scope.result.now).tables in
    let p = c.in-Some.shape in
    let over : Extends base d =
    subst (λ (l : StoredLibrary). Extends (contents_of l.tables) d) (sym c.scope.ensures.is)
    c.scope.ensures.over in
    answered_as c.is_shape_of_eq.result (is_eq_shape d (Some p))
    (λ b. (e : PlainEntry) → entry_at basis c.args.entry ≡ Some e → b ≡ is_eq e e.kind)
    c.is_shape_of_eq.ensures.ok (λ e h. eq_shape_steady base d over p c.in-Some.ensures.known
    ∙ sym (c.in-Some.ensures.is e (subst (λ (l : StoredLibrary).
    plain_entry (contents_of l.tables) l.units c.args.entry ≡ Some e) (sym c.scope.ensures.is) h)))

pub returns-in-None-clause-ok : goal.returns-in-None-clause-ok
returns-in-None-clause-ok g c e h =
    let basis = (g.L.Looks.sight (g.L.Terms.rest c.args.looks.now)).basis in
    sym (c.in-None.ensures.is e (subst (λ (l : StoredLibrary).
    plain_entry (contents_of l.tables) l.units c.args.entry ≡ Some e) (sym c.scope.ensures.is) h))
