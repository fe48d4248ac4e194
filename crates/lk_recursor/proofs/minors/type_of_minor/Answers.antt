use Rattle.std.proofs.Common.{◌≡◌, map, ap, ◌∙◌}
use Rattle.lk_store.specs.Contents.{tree_at}
use Rattle.lk_subst.specs.Numbers.{trees-steady, trees-known}
use Rattle.lk_block.specs.declared.shape.Field.{Field}
use Rattle.lk_inductive.specs.Recursors.{pis, variables}
use Rattle.lk_block.specs.Shapes.{constructor_shape_at, type_shape_at, shape_at}
use Rattle.lk_recursor.specs.Hypotheses.{minor_body}
use Rattle.lk_recursor.proofs.FieldLists.{variables_at, variables_in}
use Rattle.lk_recursor.proofs.minors.type_of_minor.Goals as goal

pub body_of_minor-requires-clause-variables_in : goal.body_of_minor-requires-clause-variables_in
body_of_minor-requires-clause-variables_in g c =
    variables_in (g.T.Terms.contents c.args.terms.now) c.deref-2.result.now c.args.constructor.now.fields.items
    (c.deref-2.ensures.value ∙ c.in_ok-variables.ensures ∙ ap (map (λ (f : Field). f.variable)) c.deref.ensures.value) c.requires.constructor_in.fields_in

pub over_locals-requires-clause-locals_in : goal.over_locals-requires-clause-locals_in
over_locals-requires-clause-locals_in g c =
    let before = g.T.Terms.contents c.args.terms.now in
    trees-known before (g.T.Terms.contents c.body_of_minor.new.terms) c.deref-3.result.now c.in_ok-body.ensures.keeps
    (variables_in before c.deref-3.result.now c.args.constructor.now.fields.items
    (c.deref-3.ensures.value ∙ c.in_ok-variables.ensures ∙ ap (map (λ (f : Field). f.variable)) c.deref.ensures.value) c.requires.constructor_in.fields_in)

pub returns-clause-ok : goal.returns-clause-ok
returns-clause-ok g c =
    let before = g.T.Terms.contents c.args.terms.now in
    let first = g.T.Terms.contents c.body_of_minor.new.terms in
    let p = shape_at before c.args.shape.now in
    let t = type_shape_at before c.args.of.now in
    let C = constructor_shape_at before c.args.constructor.now in
    let fields = c.args.constructor.now.fields.items in
    let made = c.in_ok-made.ensures.ok in
    let body = c.in_ok-body.ensures in
    let inner = c.deref-2.ensures.value ∙ c.in_ok-variables.ensures ∙ ap (map (λ (f : Field). f.variable)) c.deref.ensures.value in
    let outer = c.deref-3.ensures.value ∙ c.in_ok-variables.ensures ∙ ap (map (λ (f : Field). f.variable)) c.deref.ensures.value in
    let variables_is : map (tree_at first) c.deref-3.result.now ≡ variables C.fields =
    trees-steady before first c.deref-3.result.now body.keeps (variables_in before c.deref-3.result.now fields outer c.requires.constructor_in.fields_in) ∙ variables_at before c.deref-3.result.now fields outer in
    let body_is : tree_at first c.in_ok-body.body ≡ minor_body p t C (variables C.fields) = body.ok.is ∙ ap (minor_body p t C) (variables_at before c.deref-2.result.now fields inner) in
    record { known = made.known; is = made.is ∙ ap (λ ts. pis ts (tree_at first c.in_ok-body.body)) variables_is ∙ ap (pis (variables C.fields)) body_is }
