use Rattle.std.proofs.Common.{◌≡◌, Some, None, refl, ap, sym, ◌∙◌}
use Rattle.lk_tree.specs.Spine.{head}
use Rattle.lk_questions.specs.Iota.{levels_at}
use Rattle.lk_store.specs.Contents.{tree_at, list_at}
use Rattle.lk_derive_iota.proofs.Growing.{under_way_on, stated_at}
use Rattle.lk_derive_iota.proofs.KRuns.{constructor_on}
use Rattle.lk_derive_iota.proofs.SRuns.{s_within, s_untyped, s_of_type, parent_on, expanded_at}
use Rattle.lk_derive_iota.proofs.structures.by_form.Goals as goal

pub typed_form-requires-clause-typed : goal.typed_form-requires-clause-typed
typed_form-requires-clause-typed g c = s_within c.args.constructor c.requires.at.parent c.requires.at.like

pub levels_of_type-requires-clause-inductive_in : goal.levels_of_type-requires-clause-inductive_in
levels_of_type-requires-clause-inductive_in g c = (constructor_on c.typed_form.ensures.leaves.keeps c.requires.constructor_in).inductive_in

pub by_count-requires-clause-stated : goal.by_count-requires-clause-stated
by_count-requires-clause-stated g c = stated_at c.typed_form.ensures.leaves.place c.requires.stated

pub by_count-requires-clause-constructor_in : goal.by_count-requires-clause-constructor_in
by_count-requires-clause-constructor_in g c = constructor_on c.typed_form.ensures.leaves.keeps c.requires.constructor_in

pub by_count-requires-clause-at : goal.by_count-requires-clause-at
by_count-requires-clause-at g c =
    let m = g.D.Terms.contents c.typed_form.new.derives in
    let leaves = c.typed_form.ensures.leaves in
    let h = c.requires.at.parent in
    let T = tree_at m c.in_ok-ty.ty in
    let ks = list_at m c.in-Some.levels in
    let name = leaves.keeps.names.same c.args.constructor.inductive c.requires.constructor_in.inductive_in ∙ h.is.inductive_is in
    let some : levels_at h.b.ind.name (head T) ≡ Some ks = ap (λ z. levels_at z (head T)) (sym name) ∙ c.in-Some.ensures.is in
    parent_on leaves.place leaves.library leaves.keeps (leaves.keeps.trees.same c.args.m c.requires.m_in) refl refl c.requires.constructor_in (s_of_type c.args.constructor h c.requires.at.like T c.in_ok-ty.ensures.told ks some)

pub returns-in-Some-clause-is : goal.returns-in-Some-clause-is
returns-in-Some-clause-is g c =
    let leaves = c.typed_form.ensures.leaves in
    let d = g.D.Terms.contents c.by_count.new.derives in
    expanded_at d c.args.row.now c.args.enough c.args.redex.now (tree_at d c.args.m) (tree_at d) c.by_count.result leaves.place leaves.library c.by_count.ensures.is

pub returns-in-None-clause-is : goal.returns-in-None-clause-is
returns-in-None-clause-is g c =
    let m = g.D.Terms.contents c.typed_form.new.derives in
    let leaves = c.typed_form.ensures.leaves in
    let h = c.requires.at.parent in
    let T = tree_at m c.in_ok-ty.ty in
    let name = leaves.keeps.names.same c.args.constructor.inductive c.requires.constructor_in.inductive_in ∙ h.is.inductive_is in
    let none : levels_at h.b.ind.name (head T) ≡ None = ap (λ z. levels_at z (head T)) (sym name) ∙ c.in-None.ensures.is in
    under_way_on refl refl leaves.keeps (leaves.keeps.trees.same c.args.m c.requires.m_in) (s_untyped c.args.constructor h c.requires.at.like T c.in_ok-ty.ensures.told none)
