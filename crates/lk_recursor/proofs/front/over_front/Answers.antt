use Rattle.std.proofs.Common.{◌≡◌, ◌++◌, map, ap, refl, sym, subst, ◌∙◌}
use Rattle.std.specs.Prelude.{IfOk, IfSome}
use Rattle.lk_store.specs.Contents.{tree_at, IsTree}
use Rattle.lk_store.proofs.Extending.{Extends-trans}
use Rattle.lk_inductive.specs.Recursors.{Restoring, motives, minors}
use Rattle.lk_block.specs.Shapes.{shape_at}
use Rattle.lk_restore.specs.Originals.{setting_of}
use Rattle.lk_restore.specs.Steady.{originals-known, originals-stay, restoring-steady}
use Rattle.lk_recursor.specs.Binders.{bound_by}
use Rattle.lk_recursor.specs.Fronts.{read_by}
use Rattle.lk_recursor.specs.Telescopes.{IsFrontTelescope}
use Rattle.lk_recursor.proofs.Lists.{bound-append}
use Rattle.lk_recursor.proofs.Telescopes.{front_bound}
use Rattle.lk_recursor.proofs.Fronts.{bound_then}
use Rattle.lk_recursor.proofs.front.over_front.Goals as goal

pub returns-in-Some-clause-ok : goal.returns-in-Some-clause-ok
returns-in-Some-clause-ok g c =
    let before = g.T.Terms.contents c.args.terms.now in
    let after = g.T.Terms.contents c.over_telescope.new.terms in
    let p = shape_at before c.args.shape.now in
    let os = c.args.front.now.originals.now in
    let t = c.in-Some.telescope in
    let is = subst (λ o. IfSome o (IsFrontTelescope before p os)) c.in-Some.is c.requires.front_is.telescope_is in
    subst (λ e. IfOk c.over_telescope.result (λ r. IsTree after r e)) (front_bound before p os t c.args.binder (tree_at before c.args.e) is) c.over_telescope.ensures.ok

pub restore-requires-clause-originals_in : goal.restore-requires-clause-originals_in
restore-requires-clause-originals_in g c =
    let before = g.T.Terms.contents c.args.terms.now in
    let first = g.T.Terms.contents c.over_locals.new.terms in
    let second = g.T.Terms.contents c.over_locals-2.new.terms in
    originals-known before second (Extends-trans before first second c.in_ok-inner.ensures.keeps c.in_ok-middle.ensures.keeps) c.args.front.now.originals.now c.requires.front_is.originals_are.known

pub returns-clause-ok : goal.returns-clause-ok
returns-clause-ok g c =
    let before = g.T.Terms.contents c.args.terms.now in
    let first = g.T.Terms.contents c.over_locals.new.terms in
    let second = g.T.Terms.contents c.over_locals-2.new.terms in
    let third = g.T.Terms.contents c.restore.new.terms in
    let after = g.T.Terms.contents c.over_locals-3.new.terms in
    let b = c.args.binder in
    let p = shape_at before c.args.shape.now in
    let E = tree_at before c.args.e in
    let front = c.requires.front_is in
    let os = c.args.front.now.originals.now in
    let params = c.args.shape.now.parameters.items in
    let inner = c.in_ok-inner.ensures in
    let middle = c.in_ok-middle.ensures in
    let to_second = Extends-trans before first second inner.keeps middle.keeps in
    let stay = originals-stay before second to_second p os front.originals_are in
    let back = c.in_ok-read.ensures in
    let back_is = back.ok (setting_of p) stay.standing stay.over in
    let made = c.in_ok-made.ensures.ok in
    let inner_is : tree_at first c.in_ok-inner.inner ≡ bound_by b (minors p) E =
    inner.ok.is ∙ ap (λ ys. bound_by b (map (tree_at before) ys) E) c.deref.ensures.value ∙ ap (λ ts. bound_by b ts E) front.minors_are.are in
    let middle_is : tree_at second c.in_ok-middle.middle ≡ bound_by b (motives p) (bound_by b (minors p) E) =
    bound_then b before first inner.keeps c.deref-2.result.now c.args.front.now.heads.motives.items (motives p) (tree_at second c.in_ok-middle.middle) (tree_at first c.in_ok-inner.inner) (bound_by b (minors p) E)
    c.deref-2.ensures.value front.heads_are.motives_are inner_is middle.ok.is in
    let whole : tree_at second c.in_ok-middle.middle ≡ bound_by b (motives p ++ minors p) E = middle_is ∙ sym (bound-append b (motives p) (minors p) E) in
    let read_is : tree_at third c.in_ok-read.read ≡ (read_by before c.args.shape.now c.args.front.now).tree (bound_by b (motives p ++ minors p) E) =
    back_is.is
    ∙ ap (λ (w : Restoring). w.tree (tree_at second c.in_ok-middle.middle)) (restoring-steady before second to_second p os front.originals_are)
    ∙ ap (read_by before c.args.shape.now c.args.front.now).tree whole in
    record {
      known = made.known;
      is =
          bound_then b before third (Extends-trans before second third to_second back.keeps) c.deref-3.result.now params p.params (tree_at after c.in_ok-made.made) (tree_at third c.in_ok-read.read)
          ((read_by before c.args.shape.now c.args.front.now).tree (bound_by b (motives p ++ minors p) E)) c.deref-3.ensures.value (record { known = c.requires.shape_in.parameters_in; are = refl }) read_is made.is;
    }

pub returns-clause-keeps : goal.returns-clause-keeps
returns-clause-keeps g c =
    let before = g.T.Terms.contents c.args.terms.now in
    let first = g.T.Terms.contents c.over_locals.new.terms in
    let second = g.T.Terms.contents c.over_locals-2.new.terms in
    let third = g.T.Terms.contents c.restore.new.terms in
    let after = g.T.Terms.contents c.over_locals-3.new.terms in
    let to_second = Extends-trans before first second c.in_ok-inner.ensures.keeps c.in_ok-middle.ensures.keeps in
    Extends-trans before second after to_second (Extends-trans second third after c.in_ok-read.ensures.keeps c.in_ok-made.ensures.keeps)
