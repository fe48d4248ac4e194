use Rattle.std.proofs.Common.{◌≡◌, ◌<◌, length, map, ap, refl, ◌∙◌}
use Rattle.std.proofs.lemmas.List.Elements.{All-same}
use Rattle.lk_tree.specs.Tree.{app}
use Rattle.lk_tree.specs.Spine.{apply}
use Rattle.lk_store.specs.Contents.{name_at, tree_at}
use Rattle.lk_store.proofs.Extending.{Extends-trans}
use Rattle.lk_subst.specs.Numbers.{trees-steady, trees-known}
use Rattle.lk_inductive.specs.Recursors.{arrows, at_params, hypotheses, motive_of}
use Rattle.lk_block.specs.Shapes.{field_at, shape_at}
use Rattle.lk_recursor.proofs.Applied.{motive_same, constant_same}
use Rattle.lk_recursor.proofs.Steady.{heads-steady, levels-steady}
use Rattle.lk_recursor.proofs.minors.body_of_minor.Goals as goal

pub at_parameters-requires-clause-levels_are : goal.at_parameters-requires-clause-levels_are
at_parameters-requires-clause-levels_are g c =
    levels-steady (g.T.Terms.contents c.args.terms.now) (g.T.Terms.contents c.recursive_terms.new.terms) c.in_ok-hypotheses.ensures.keeps c.args.shape.now c.args.heads.now.own_levels c.requires.shape_in c.requires.heads_are.own_levels_are

pub motive_at-requires-clause-heads_are : goal.motive_at-requires-clause-heads_are
motive_at-requires-clause-heads_are g c =
    let before = g.T.Terms.contents c.args.terms.now in
    let second = g.T.Terms.contents c.at_parameters.new.terms in
    heads-steady before second (Extends-trans before (g.T.Terms.contents c.recursive_terms.new.terms) second c.in_ok-hypotheses.ensures.keeps c.in_ok-subject.ensures.keeps) c.args.shape.now c.args.heads.now c.requires.shape_in c.requires.heads_are

pub motive_at-requires-clause-indices_in : goal.motive_at-requires-clause-indices_in
motive_at-requires-clause-indices_in g c =
    let before = g.T.Terms.contents c.args.terms.now in
    let second = g.T.Terms.contents c.at_parameters.new.terms in
    let indices = c.args.constructor.now.indices.items in
    All-same (λ e. e < length second.trees) c.deref-2.result.now indices c.deref-2.ensures.value
    (trees-known before second indices (Extends-trans before (g.T.Terms.contents c.recursive_terms.new.terms) second c.in_ok-hypotheses.ensures.keeps c.in_ok-subject.ensures.keeps) c.requires.constructor_in.indices_in)

pub arrows_to-requires-clause-domains_in : goal.arrows_to-requires-clause-domains_in
arrows_to-requires-clause-domains_in g c =
    let first = g.T.Terms.contents c.recursive_terms.new.terms in
    let third = g.T.Terms.contents c.motive_at.new.terms in
    let found = c.in_ok-hypotheses.hypotheses.items in
    All-same (λ e. e < length third.trees) c.deref-3.result.now found c.deref-3.ensures.value
    (trees-known first third found (Extends-trans first (g.T.Terms.contents c.at_parameters.new.terms) third c.in_ok-subject.ensures.keeps c.in_ok-end.ensures.keeps) c.in_ok-hypotheses.ensures.ok.known)

pub returns-clause-ok : goal.returns-clause-ok
returns-clause-ok g c =
    let before = g.T.Terms.contents c.args.terms.now in
    let first = g.T.Terms.contents c.recursive_terms.new.terms in
    let second = g.T.Terms.contents c.at_parameters.new.terms in
    let third = g.T.Terms.contents c.motive_at.new.terms in
    let s = c.args.shape.now in
    let p = shape_at before s in
    let C = c.args.constructor.now in
    let hyps = c.in_ok-hypotheses.ensures in
    let subject = c.in_ok-subject.ensures in
    let end = c.in_ok-end.ensures in
    let made = c.in_ok-made.ensures.ok in
    let found = c.in_ok-hypotheses.hypotheses.items in
    let known = c.requires.constructor_in in
    let S = apply (at_params p (name_at before C.name)) (map (tree_at before) c.args.variables.now) in
    let E = app (apply (motive_of p (name_at before c.args.of.now.name)) (map (tree_at before) C.indices.items)) S in
    let S_is : tree_at second c.in_ok-subject.subject ≡ S = subject.ok.is ∙ constant_same before first hyps.keeps s c.requires.shape_in C.name known.name_in c.args.variables.now c.args.variables.now refl c.requires.variables_in in
    let E_is : tree_at third c.in_ok-end.end ≡ E =
    end.ok.is
    ∙ motive_same before second (Extends-trans before first second hyps.keeps subject.keeps) s c.requires.shape_in c.args.of.now.name c.requires.type_in.name_in c.deref-2.result.now C.indices.items c.deref-2.ensures.value known.indices_in (tree_at second c.in_ok-subject.subject) S S_is in
    let H_is : map (tree_at third) c.deref-3.result.now ≡ hypotheses p (map (field_at before) C.fields.items) =
    ap (map (tree_at third)) c.deref-3.ensures.value
    ∙ trees-steady first third found (Extends-trans first second third subject.keeps end.keeps) hyps.ok.known
    ∙ hyps.ok.are
    ∙ ap (λ fs. hypotheses p (map (field_at before) fs)) c.deref.ensures.value in
    record { known = made.known; is = made.is ∙ ap (λ ts. arrows ts (tree_at third c.in_ok-end.end)) H_is ∙ ap (arrows (hypotheses p (map (field_at before) C.fields.items))) E_is }
