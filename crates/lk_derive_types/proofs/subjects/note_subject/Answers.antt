use Rattle.lk_store.specs.Contents.{tree_at}
use Rattle.lk_derive_types.proofs.Leaving.{leaves_then}
use Rattle.lk_derive_types.proofs.SubjectSteps.{formed_first, formed_second, formed_noted}
use Rattle.lk_derive_types.proofs.subjects.note_subject.Goals as goal

pub type_of-requires-clause-answered : goal.type_of-requires-clause-answered
type_of-requires-clause-answered g c =
    formed_first (g.D.Looks.sight (g.D.Terms.rest c.args.derives.now)).basis.place (tree_at (g.D.Terms.contents c.args.derives.now) c.args.subject) c.args.enough c.requires.formed

pub form_of-requires-clause-answered : goal.form_of-requires-clause-answered
form_of-requires-clause-answered g c =
    let w = (g.D.Looks.sight (g.D.Terms.rest c.args.derives.now)).basis.place in
    let u = (g.D.Looks.sight (g.D.Terms.rest c.type_of.new.derives)).basis.place in
    formed_second w u (tree_at (g.D.Terms.contents c.args.derives.now) c.args.subject) (tree_at (g.D.Terms.contents c.type_of.new.derives) c.in_ok-ty.ty) c.args.enough c.type_of.ensures.leaves.place c.requires.formed c.in_ok-ty.ensures.told

pub returns : goal.returns
returns g c =
    let w = (g.D.Looks.sight (g.D.Terms.rest c.args.derives.now)).basis.place in
    let u = (g.D.Looks.sight (g.D.Terms.rest c.type_of.new.derives)).basis.place in
    let c₁ = g.D.Terms.contents c.type_of.new.derives in
    let c₂ = g.D.Terms.contents c.form_of.new.derives in
    record {
      leaves = leaves_then g.D.Terms.contents g.D.Terms.rest g.D.Looks.sight c.args.derives.now c.type_of.new.derives c.form_of.new.derives c.type_of.ensures.leaves c.form_of.ensures.leaves;
      noted = formed_noted w u c₁ c₂ (tree_at (g.D.Terms.contents c.args.derives.now) c.args.subject) c.args.asked.now c.note_type.new.self c.note_form.new.self c.args.subject c.in_ok-ty.ty c.in_ok-form.form c.type_of.ensures.leaves.place
          c.form_of.ensures.leaves.keeps c.in_ok-ty.ensures.known c.in_ok-form.ensures.known c.in_ok-ty.ensures.told c.in_ok-form.ensures.told c.in_ok-note_type.ensures c.in_ok-note_form.ensures;
    }
