use Rattle.std.proofs.Common.{◌≡◌, Some, None, refl, ap, sym, subst, ◌∙◌}
use Rattle.lk_tree.specs.Spine.{head}
use Rattle.lk_questions.specs.Iota.{levels_at}
use Rattle.lk_store.specs.Contents.{tree_at, list_at}
use Rattle.lk_derive_iota.specs.Taken.{HasForm, IsTypedWithin}
use Rattle.lk_derive_iota.proofs.Growing.{under_way_on}
use Rattle.lk_derive_iota.proofs.KRuns.{k_within, k_untyped, k_of_type, type_on, constructor_on, taken_at}
use Rattle.lk_derive_iota.proofs.candidates.by_type.Goals as goal

pub typed_form-requires-clause-e_in : goal.typed_form-requires-clause-e_in
typed_form-requires-clause-e_in g c = c.requires.at.under.redex.major_is.known

pub typed_form-requires-clause-typed : goal.typed_form-requires-clause-typed
typed_form-requires-clause-typed g c =
    let w = (g.D.Looks.sight (g.D.Terms.rest c.args.derives.now)).basis.place in
    subst (λ z. IsTypedWithin w z c.args.enough) (sym c.requires.at.under.redex.major_is.is) (k_within c.args.constructor c.requires.at)

pub levels_of_type-requires-clause-inductive_in : goal.levels_of_type-requires-clause-inductive_in
levels_of_type-requires-clause-inductive_in g c = (constructor_on c.typed_form.ensures.leaves.keeps c.requires.constructor_in).inductive_in

pub by_levels-requires-clause-constructor_in : goal.by_levels-requires-clause-constructor_in
by_levels-requires-clause-constructor_in g c = constructor_on c.typed_form.ensures.leaves.keeps c.requires.constructor_in

pub by_levels-requires-clause-at : goal.by_levels-requires-clause-at
by_levels-requires-clause-at g c =
    let m = g.D.Terms.contents c.typed_form.new.derives in
    let w = (g.D.Looks.sight (g.D.Terms.rest c.args.derives.now)).basis.place in
    let leaves = c.typed_form.ensures.leaves in
    let h = c.requires.at in
    let T = tree_at m c.in_ok-ty.ty in
    let has = subst (λ z. HasForm w z T) h.under.redex.major_is.is c.in_ok-ty.ensures.told in
    let name = leaves.keeps.names.same c.args.constructor.inductive c.requires.constructor_in.inductive_in ∙ h.is.inductive_is in
    let some : levels_at h.b.ind.name (head T) ≡ Some (list_at m c.in-Some.levels) =
    ap (λ z. levels_at z (head T)) (sym name) ∙ c.in-Some.ensures.is in
    type_on leaves.place leaves.library leaves.keeps (leaves.keeps.trees.same c.args.redex.now.major h.under.redex.major_is.known) c.requires.constructor_in (k_of_type c.args.constructor h T has (list_at m c.in-Some.levels) some)

pub returns-in-Some-clause-is : goal.returns-in-Some-clause-is
returns-in-Some-clause-is g c =
    let leaves = c.typed_form.ensures.leaves in
    let d = g.D.Terms.contents c.by_levels.new.derives in
    taken_at d c.args.row.now c.args.enough c.args.redex.now (tree_at d c.args.redex.now.major) (tree_at d) c.by_levels.result leaves.place leaves.library c.by_levels.ensures.is

pub returns-in-None-clause-is : goal.returns-in-None-clause-is
returns-in-None-clause-is g c =
    let m = g.D.Terms.contents c.typed_form.new.derives in
    let w = (g.D.Looks.sight (g.D.Terms.rest c.args.derives.now)).basis.place in
    let leaves = c.typed_form.ensures.leaves in
    let h = c.requires.at in
    let T = tree_at m c.in_ok-ty.ty in
    let has = subst (λ z. HasForm w z T) h.under.redex.major_is.is c.in_ok-ty.ensures.told in
    let name = leaves.keeps.names.same c.args.constructor.inductive c.requires.constructor_in.inductive_in ∙ h.is.inductive_is in
    let none : levels_at h.b.ind.name (head T) ≡ None = ap (λ z. levels_at z (head T)) (sym name) ∙ c.in-None.ensures.is in
    under_way_on refl refl leaves.keeps (leaves.keeps.trees.same c.args.redex.now.major h.under.redex.major_is.known) (k_untyped c.args.constructor h T has none)
