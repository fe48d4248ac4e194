use Rattle.std.proofs.Common.{◌≡◌, map, ap, ◌∙◌}
use Rattle.lk_tree.specs.Tree.{Name, app}
use Rattle.lk_tree.specs.Spine.{apply}
use Rattle.lk_store.specs.Contents.{name_at, tree_at}
use Rattle.lk_store.proofs.Extending.{Extends-trans}
use Rattle.lk_subst.specs.Numbers.{trees-steady}
use Rattle.lk_inductive.specs.Block as plain
use Rattle.lk_block.specs.Shapes.{shape_at}
use Rattle.lk_block.proofs.Shaping.{shape-steady}
use Rattle.lk_recursor.specs.Binders.{bound_by}
use Rattle.lk_recursor.specs.Recursive.{binder_in, head_in}
use Rattle.lk_recursor.proofs.Steady.{heading-steady}
use Rattle.lk_recursor.proofs.recursive.recursive_term.Goals as goal

pub head_at-requires-clause-heading_is : goal.head_at-requires-clause-heading_is
head_at-requires-clause-heading_is g c =
    heading-steady (g.T.Terms.contents c.args.terms.now) (g.T.Terms.contents c.apply.new.terms)
    c.in_ok-subject.ensures.keeps c.args.shape.now c.args.heading.now c.requires.shape_in c.requires.heading_is

pub returns-clause-ok : goal.returns-clause-ok
returns-clause-ok g c =
    let before = g.T.Terms.contents c.args.terms.now in
    let first = g.T.Terms.contents c.apply.new.terms in
    let second = g.T.Terms.contents c.head_at.new.terms in
    let s = c.args.shape.now in
    let h = c.args.heading.now in
    let r = c.args.recursion.now in
    let p = shape_at before s in
    let subject = c.in_ok-subject.ensures in
    let body = c.in_ok-body.ensures in
    let made = c.in_ok-made.ensures.ok in
    let ys = map (tree_at before) r.arguments.items in
    let is = map (tree_at before) r.indices.items in
    let T = name_at before r.name in
    let x = apply (tree_at before c.args.variable) ys in
    let at = tree_at first c.in_ok-subject.subject in
    let under = tree_at second c.in_ok-body.body in
    let known = c.requires.recursion_in in
    let indices_same = trees-steady before first r.indices.items subject.keeps known.indices_in in
    let arguments_same = trees-steady before second r.arguments.items
    (Extends-trans before first second subject.keeps body.keeps) known.arguments_in in
    let body_is : under ≡ app (apply (head_in h p T) is) x =
    body.ok.is
    ∙ ap (λ (q : plain.Shape). app (apply (head_in h q (name_at first r.name)) (map (tree_at first) r.indices.items)) at)
    (shape-steady before first subject.keeps s c.requires.shape_in)
    ∙ ap (λ (n : Name). app (apply (head_in h p n) (map (tree_at first) r.indices.items)) at)
    (subject.keeps.names.same r.name known.name_in)
    ∙ ap (λ ts. app (apply (head_in h p T) ts) at) indices_same
    ∙ ap (app (apply (head_in h p T) is))
    (subject.ok.is ∙ ap (λ ts. apply (tree_at before c.args.variable) (map (tree_at before) ts)) c.deref.ensures.value) in
    record {
      known = made.known;
      is =
          made.is
          ∙ ap (λ b. bound_by b (map (tree_at second) c.deref-2.result.now) under) c.binder_of-binder.ensures
          ∙ ap (λ ts. bound_by (binder_in h) (map (tree_at second) ts) under) c.deref-2.ensures.value
          ∙ ap (λ ts. bound_by (binder_in h) ts under) arguments_same
          ∙ ap (bound_by (binder_in h) ys) body_is;
    }
