use Rattle.std.proofs.Common.{[], sym, subst}
use Rattle.lk_rulebook.specs.WellStated.{WellStated}
use Rattle.lk_questions.specs.Query.{infer}
use Rattle.lk_store.specs.Contents.{tree_at}
use Rattle.lk_store.proofs.Extending.{Extends-trans}
use Rattle.lk_step.specs.Told.{IsAnsweredWithin}
use Rattle.lk_derive_types.specs.Spines.{IsSpineAt}
use Rattle.lk_derive_types.proofs.Leaving.{leaves_then}
use Rattle.lk_derive_types.proofs.SpineSteps.{head_within, spine_begin, spine_end}
use Rattle.lk_derive_types.proofs.applications.application_row.Goals as goal

pub type_of-requires-clause-answered : goal.type_of-requires-clause-answered
type_of-requires-clause-answered g c =
    let w = (g.D.Looks.sight (g.D.Terms.rest c.args.derives.now)).basis.place in
    let e = tree_at (g.D.Terms.contents c.args.derives.now) c.args.e in
    subst (λ z. IsAnsweredWithin w (infer z) c.args.enough) (sym c.head-function.ensures.is) (head_within w e c.args.enough c.requires.applied c.requires.answered)

pub applied_type-requires-clause-stated : goal.applied_type-requires-clause-stated
applied_type-requires-clause-stated g c = subst WellStated (sym c.type_of.ensures.leaves.place) c.requires.stated

pub applied_type-requires-clause-spine : goal.applied_type-requires-clause-spine
applied_type-requires-clause-spine g c =
    let u = (g.D.Looks.sight (g.D.Terms.rest c.type_of.new.derives)).basis.place in
    let w = (g.D.Looks.sight (g.D.Terms.rest c.args.derives.now)).basis.place in
    let c₀ = g.D.Terms.contents c.args.derives.now in
    let c₁ = g.D.Terms.contents c.type_of.new.derives in
    subst (λ es. IsSpineAt u c₁ c.args.e c.args.enough c.in_ok-at.at es c.note_type.new.self) (sym c.deref.ensures.value)
    (subst (λ p. IsSpineAt p c₁ c.args.e c.args.enough c.in_ok-at.at c.in_ok-arguments.arguments.items c.note_type.new.self) (sym c.type_of.ensures.leaves.place)
    (spine_begin w c.requires.stated c₀ c₁ c.args.e c.head-function.result c.in_ok-at.at c.args.enough c.in_ok-arguments.arguments.items c.new-asked.result c.note_type.new.self c.type_of.ensures.leaves.keeps c.requires.e_in c.requires.askable c.requires.answered
    c.requires.applied c.head-function.ensures c.in_ok-arguments.ensures c.in_ok-at.ensures.told c.in_ok-at.ensures.known c.new-asked.ensures c.in_ok-note_type.ensures))

pub returns : goal.returns
returns g c =
    let w = (g.D.Looks.sight (g.D.Terms.rest c.args.derives.now)).basis.place in
    let c₀ = g.D.Terms.contents c.args.derives.now in
    let c₁ = g.D.Terms.contents c.type_of.new.derives in
    let c₂ = g.D.Terms.contents c.applied_type.new.derives in
    let x = Extends-trans c₀ c₁ c₂ c.type_of.ensures.leaves.keeps c.applied_type.ensures.leaves.keeps in
    let h = subst (λ p. IsSpineAt p c₂ c.args.e c.args.enough c.in_ok-ty.ty [] c.applied_type.new.asked) c.type_of.ensures.leaves.place c.in_ok-ty.ensures.spine in
    record {
      leaves = leaves_then g.D.Terms.contents g.D.Terms.rest g.D.Looks.sight c.args.derives.now c.type_of.new.derives c.applied_type.new.derives c.type_of.ensures.leaves c.applied_type.ensures.leaves;
      row = c.typing_row.ensures w c₂ (tree_at c₀ c.args.e) (spine_end w c₀ c₂ c.args.e c.args.enough c.in_ok-ty.ty c.applied_type.new.asked x c.requires.e_in h);
    }
