use Rattle.std.proofs.Common.{◌≡◌, ◌++◌, map, ap, ◌∙◌}
use Rattle.lk_store.specs.Contents.{tree_at}
use Rattle.lk_store.proofs.Extending.{Extends-trans}
use Rattle.lk_subst.specs.Numbers.{trees-known}
use Rattle.lk_inductive.specs.Block as plain
use Rattle.lk_inductive.specs.Recursors.{Restoring, lams, motives, minors, variables}
use Rattle.lk_block.specs.declared.shape.Field.{Field}
use Rattle.lk_block.specs.Shapes.{shape_at, constructor_shape_at}
use Rattle.lk_recursor.specs.declared.binders.Binder.TheVariants.{Lam}
use Rattle.lk_restore.specs.Originals.{restoring_at}
use Rattle.lk_restore.specs.Steady.{restoring-steady}
use Rattle.lk_recursor.specs.Hypotheses.{rule_end}
use Rattle.lk_recursor.proofs.FieldLists.{variables_at, variables_in}
use Rattle.lk_recursor.proofs.Fronts.{bound_then}
use Rattle.lk_block.proofs.Shaping.{shape-steady}
use Rattle.lk_recursor.proofs.Steady.{front-steady}
use Rattle.lk_recursor.proofs.rules.rule_value.Goals as goal

pub minor_applied-requires-clause-variables_in : goal.minor_applied-requires-clause-variables_in
minor_applied-requires-clause-variables_in g c =
    variables_in (g.T.Terms.contents c.args.terms.now) c.deref-2.result.now c.args.constructor.now.fields.items
    (c.deref-2.ensures.value ∙ c.in_ok-variables.ensures ∙ ap (map (λ (f : Field). f.variable)) c.deref.ensures.value) c.requires.constructor_in.fields_in

pub over_locals-requires-clause-locals_in : goal.over_locals-requires-clause-locals_in
over_locals-requires-clause-locals_in g c =
    let before = g.T.Terms.contents c.args.terms.now in
    trees-known before (g.T.Terms.contents c.minor_applied.new.terms) c.deref-3.result.now c.in_ok-end.ensures.keeps
    (variables_in before c.deref-3.result.now c.args.constructor.now.fields.items
    (c.deref-3.ensures.value ∙ c.in_ok-variables.ensures ∙ ap (map (λ (f : Field). f.variable)) c.deref.ensures.value) c.requires.constructor_in.fields_in)

pub over_front-requires-clause-front_is : goal.over_front-requires-clause-front_is
over_front-requires-clause-front_is g c =
    let before = g.T.Terms.contents c.args.terms.now in
    let first = g.T.Terms.contents c.minor_applied.new.terms in
    let second = g.T.Terms.contents c.over_locals.new.terms in
    front-steady before second (Extends-trans before first second c.in_ok-end.ensures.keeps c.in_ok-body.ensures.keeps) c.args.shape.now c.args.front.now c.requires.shape_in c.requires.front_is

pub returns-clause-ok : goal.returns-clause-ok
returns-clause-ok g c =
    let before = g.T.Terms.contents c.args.terms.now in
    let first = g.T.Terms.contents c.minor_applied.new.terms in
    let second = g.T.Terms.contents c.over_locals.new.terms in
    let s = c.args.shape.now in
    let p = shape_at before s in
    let m = tree_at before c.args.minor in
    let C = constructor_shape_at before c.args.constructor.now in
    let fields = c.args.constructor.now.fields.items in
    let end = c.in_ok-end.ensures in
    let body = c.in_ok-body.ensures in
    let os = c.args.front.now.originals.now in
    let grown = Extends-trans before first second end.keeps body.keeps in
    let made = c.in_ok-made.ensures.ok in
    let xs = variables C.fields in
    let inner = c.deref-2.ensures.value ∙ c.in_ok-variables.ensures ∙ ap (map (λ (f : Field). f.variable)) c.deref.ensures.value in
    let outer = c.in_ok-variables.ensures ∙ ap (map (λ (f : Field). f.variable)) c.deref.ensures.value in
    let found = c.in_ok-variables.variables.items in
    let end_is : tree_at first c.in_ok-end.end ≡ rule_end p m C xs = end.ok.is ∙ ap (rule_end p m C) (variables_at before c.deref-2.result.now fields inner) in
    let body_is : tree_at second c.in_ok-body.body ≡ lams xs (rule_end p m C xs) =
    bound_then Lam before first end.keeps c.deref-3.result.now found xs (tree_at second c.in_ok-body.body) (tree_at first c.in_ok-end.end) (rule_end p m C xs)
    c.deref-3.ensures.value (record { known = variables_in before found fields outer c.requires.constructor_in.fields_in; are = variables_at before found fields outer }) end_is body.ok.is in
    record {
      known = made.known;
      is =
          made.is
          ∙ ap (λ (q : plain.Shape). lams q.params ((restoring_at second os q).tree (lams (motives q ++ minors q) (tree_at second c.in_ok-body.body)))) (shape-steady before second grown s c.requires.shape_in)
          ∙ ap (λ (w : Restoring). lams p.params (w.tree (lams (motives p ++ minors p) (tree_at second c.in_ok-body.body)))) (restoring-steady before second grown p os c.requires.front_is.originals_are)
          ∙ ap (λ e. lams p.params ((restoring_at before os p).tree (lams (motives p ++ minors p) e))) body_is;
    }
