use Rattle.std.proofs.Common.{[], sym, subst, ◌∙◌}
use Rattle.lk_rulebook.specs.Place.{Place}
use Rattle.lk_rulebook.specs.WellStated.{WellStated}
use Rattle.lk_store.specs.Contents.{Contents, tree_at, Extends}
use Rattle.lk_store.proofs.Extending.{Extends-trans}
use Rattle.lk_trace.specs.declared.rules.TypingRule.TheVariants.{Project}
use Rattle.lk_derive_types.specs.Projections.{IsParameterAt}
use Rattle.lk_derive_types.specs.Subjects.{IsBegun}
use Rattle.lk_derive_types.specs.TypeRows.{IsTypedBy}
use Rattle.lk_derive_types.proofs.Leaving.{leaves_then}
use Rattle.lk_derive_types.proofs.SubjectSteps.{fields_there}
use Rattle.lk_derive_types.proofs.field_types.projection_row.Goals as goal

pub begin-requires-clause-e_is : goal.begin-requires-clause-e_is
begin-requires-clause-e_is g c = record { field = c.args.field; is = c.requires.e_is }

pub put_parameters-requires-clause-stated : goal.put_parameters-requires-clause-stated
put_parameters-requires-clause-stated g c = subst WellStated (sym c.begin.ensures.leaves.place) c.requires.stated

pub put_parameters-requires-clause-begun : goal.put_parameters-requires-clause-begun
put_parameters-requires-clause-begun g c =
    subst (λ v. IsBegun v (g.D.Terms.contents c.begin.new.derives) c.args.e c.args.enough c.in_ok-begun.begun c.begin.new.asked) (sym c.begin.ensures.leaves.place) c.in_ok-begun.ensures.begun

pub field_type-requires-clause-stated : goal.field_type-requires-clause-stated
field_type-requires-clause-stated g c = subst WellStated (sym (c.put_parameters.ensures.leaves.place ∙ c.begin.ensures.leaves.place)) c.requires.stated

pub field_type-requires-clause-field : goal.field_type-requires-clause-field
field_type-requires-clause-field g c =
    let u : Place = (g.D.Looks.sight (g.D.Terms.rest c.put_parameters.new.derives)).basis.place in
    let c₀ : Contents = g.D.Terms.contents c.args.derives.now in
    let c₁ : Contents = g.D.Terms.contents c.begin.new.derives in
    let c₂ : Contents = g.D.Terms.contents c.put_parameters.new.derives in
    let x : Extends c₀ c₂ = Extends-trans c₀ c₁ c₂ c.begin.ensures.leaves.keeps c.put_parameters.ensures.leaves.keeps in
    let h : IsParameterAt u c₂ c.args.e c.args.enough c.in_ok-begun.begun.prop c.in_ok-at.at [] c.put_parameters.new.asked =
    subst (λ v. IsParameterAt v c₂ c.args.e c.args.enough c.in_ok-begun.begun.prop c.in_ok-at.at [] c.put_parameters.new.asked) (sym c.put_parameters.ensures.leaves.place) c.in_ok-at.ensures.parameters in
    fields_there u c₀ c₂ c.args.e c.args.enough c.in_ok-begun.begun.prop c.in_ok-at.at c.put_parameters.new.asked c.args.structure c.args.field c.args.subject x c.requires.e_in c.requires.structure_in c.requires.subject_in c.requires.e_is c.requires.askable h

pub returns : goal.returns
returns g c =
    let w : Place = (g.D.Looks.sight (g.D.Terms.rest c.args.derives.now)).basis.place in
    let c₀ : Contents = g.D.Terms.contents c.args.derives.now in
    let c₁ : Contents = g.D.Terms.contents c.begin.new.derives in
    let c₂ : Contents = g.D.Terms.contents c.put_parameters.new.derives in
    let c₃ : Contents = g.D.Terms.contents c.field_type.new.derives in
    let x : Extends c₀ c₂ = Extends-trans c₀ c₁ c₂ c.begin.ensures.leaves.keeps c.put_parameters.ensures.leaves.keeps in
    let typed : IsTypedBy w c₃ Project c.args.e c.in_ok-ty.ty c.field_type.new.asked (tree_at c₀ c.args.e) =
    subst (λ z. IsTypedBy w c₃ Project c.args.e c.in_ok-ty.ty c.field_type.new.asked z) (x.trees.same c.args.e c.requires.e_in)
    (subst (λ v. IsTypedBy v c₃ Project c.args.e c.in_ok-ty.ty c.field_type.new.asked (tree_at c₂ c.args.e)) (c.put_parameters.ensures.leaves.place ∙ c.begin.ensures.leaves.place) c.in_ok-ty.ensures.typed) in
    record {
      leaves = leaves_then g.D.Terms.contents g.D.Terms.rest g.D.Looks.sight c.args.derives.now c.begin.new.derives c.field_type.new.derives c.begin.ensures.leaves
          (leaves_then g.D.Terms.contents g.D.Terms.rest g.D.Looks.sight c.begin.new.derives c.put_parameters.new.derives c.field_type.new.derives c.put_parameters.ensures.leaves c.field_type.ensures.leaves);
      row = c.typing_row.ensures w c₃ (tree_at c₀ c.args.e) typed;
    }
