use Rattle.std.proofs.Common.{◌≡◌, ◌++◌, ap, refl, ◌∙◌}
use Rattle.lk_store.specs.Contents.{tree_at}
use Rattle.lk_store.proofs.Extending.{Extends-trans}
use Rattle.lk_inductive.specs.Block as plain
use Rattle.lk_inductive.specs.Recursors.{Restoring, pis, motives, minors}
use Rattle.lk_block.specs.Shapes.{shape_at, type_shape_at}
use Rattle.lk_recursor.specs.declared.binders.Binder.TheVariants.{Pi}
use Rattle.lk_restore.specs.Originals.{restoring_at}
use Rattle.lk_restore.specs.Steady.{restoring-steady}
use Rattle.lk_recursor.specs.Hypotheses.{major_end}
use Rattle.lk_recursor.proofs.Fronts.{bound_then}
use Rattle.lk_block.proofs.Shaping.{shape-steady}
use Rattle.lk_recursor.proofs.Steady.{front-steady}
use Rattle.lk_recursor.proofs.recursor.recursor_type.Goals as goal

pub over_front-requires-clause-front_is : goal.over_front-requires-clause-front_is
over_front-requires-clause-front_is g c =
    let before = g.T.Terms.contents c.args.terms.now in
    let first = g.T.Terms.contents c.end_of.new.terms in
    let second = g.T.Terms.contents c.over_locals.new.terms in
    front-steady before second (Extends-trans before first second c.in_ok-end.ensures.keeps c.in_ok-body.ensures.keeps) c.args.shape.now c.args.front.now c.requires.shape_in c.requires.front_is

pub returns-clause-ok : goal.returns-clause-ok
returns-clause-ok g c =
    let before = g.T.Terms.contents c.args.terms.now in
    let first = g.T.Terms.contents c.end_of.new.terms in
    let second = g.T.Terms.contents c.over_locals.new.terms in
    let s = c.args.shape.now in
    let p = shape_at before s in
    let t = type_shape_at before c.args.of.now in
    let end = c.in_ok-end.ensures in
    let body = c.in_ok-body.ensures in
    let os = c.args.front.now.originals.now in
    let grown = Extends-trans before first second end.keeps body.keeps in
    let made = c.in_ok-made.ensures.ok in
    let body_is : tree_at second c.in_ok-body.body ≡ pis t.indices (major_end p t) =
    bound_then Pi before first end.keeps c.deref.result.now c.args.of.now.indices.items t.indices (tree_at second c.in_ok-body.body) (tree_at first c.in_ok-end.end) (major_end p t)
    c.deref.ensures.value (record { known = c.requires.type_in.indices_in; are = refl }) end.ok.is body.ok.is in
    record {
      known = made.known;
      is =
          made.is
          ∙ ap (λ (q : plain.Shape). pis q.params ((restoring_at second os q).tree (pis (motives q ++ minors q) (tree_at second c.in_ok-body.body)))) (shape-steady before second grown s c.requires.shape_in)
          ∙ ap (λ (w : Restoring). pis p.params (w.tree (pis (motives p ++ minors p) (tree_at second c.in_ok-body.body)))) (restoring-steady before second grown p os c.requires.front_is.originals_are)
          ∙ ap (λ e. pis p.params ((restoring_at before os p).tree (pis (motives p ++ minors p) e))) body_is;
    }
