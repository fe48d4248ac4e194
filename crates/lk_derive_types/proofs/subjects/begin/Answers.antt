use Rattle.std.proofs.Common.{◌∙◌, arith}
use Rattle.lk_rulebook.specs.Place.{Place}
use Rattle.lk_store.specs.Contents.{Contents, name_at, tree_at, Extends}
use Rattle.lk_store.proofs.Extending.{Extends-trans}
use Rattle.lk_derive_types.proofs.Leaving.{leaves_made, leaves_then}
use Rattle.lk_derive_types.proofs.SubjectSteps.{subject_within, sort_within, structure_here, begun_at}
use Rattle.lk_derive_types.proofs.subjects.begin.Goals as goal

pub note_subject-requires-clause-formed : goal.note_subject-requires-clause-formed
note_subject-requires-clause-formed g c =
    let w : Place = (g.D.Looks.sight (g.D.Terms.rest c.args.derives.now)).basis.place in
    let c₀ : Contents = g.D.Terms.contents c.args.derives.now in
    subject_within w (tree_at c₀ c.args.e) (name_at c₀ c.args.structure) (tree_at c₀ c.args.subject) c.args.enough c.requires.e_is c.requires.answered

pub note_whether_prop-requires-clause-ty_in : goal.note_whether_prop-requires-clause-ty_in
note_whether_prop-requires-clause-ty_in g c = c.in_ok-form.ensures.noted.form_is.known

pub note_whether_prop-requires-clause-sorted : goal.note_whether_prop-requires-clause-sorted
note_whether_prop-requires-clause-sorted g c =
    let w : Place = (g.D.Looks.sight (g.D.Terms.rest c.args.derives.now)).basis.place in
    let u : Place = (g.D.Looks.sight (g.D.Terms.rest c.note_subject.new.derives)).basis.place in
    let c₀ : Contents = g.D.Terms.contents c.args.derives.now in
    let c₁ : Contents = g.D.Terms.contents c.note_subject.new.derives in
    sort_within w u c₁ (tree_at c₀ c.args.e) (name_at c₀ c.args.structure) (tree_at c₀ c.args.subject) c.args.enough c.args.asked.now c.note_subject.new.asked c.args.subject c.in_ok-form.form c.note_subject.ensures.leaves.place c.requires.e_is c.requires.answered
    c.in_ok-form.ensures.noted

pub constructor_of-requires-clause-name_in : goal.constructor_of-requires-clause-name_in
constructor_of-requires-clause-name_in g c =
    let x = c.note_subject.ensures.leaves.keeps.names.longer in
    let y = c.note_whether_prop.ensures.leaves.keeps.names.longer in
    let h = c.requires.structure_in in
    omega (arith, x, y, h)

pub constructor_of-requires-clause-form_in : goal.constructor_of-requires-clause-form_in
constructor_of-requires-clause-form_in g c =
    let y = c.note_whether_prop.ensures.leaves.keeps.trees.longer in
    let h = c.in_ok-form.ensures.noted.form_is.known in
    omega (arith, y, h)

pub constructor_of-requires-clause-structure : goal.constructor_of-requires-clause-structure
constructor_of-requires-clause-structure g c =
    let w : Place = (g.D.Looks.sight (g.D.Terms.rest c.args.derives.now)).basis.place in
    let v : Place = (g.D.Looks.sight (g.D.Terms.rest c.note_whether_prop.new.derives)).basis.place in
    let c₀ : Contents = g.D.Terms.contents c.args.derives.now in
    let c₁ : Contents = g.D.Terms.contents c.note_subject.new.derives in
    let c₂ : Contents = g.D.Terms.contents c.note_whether_prop.new.derives in
    let x : Extends c₀ c₂ = Extends-trans c₀ c₁ c₂ c.note_subject.ensures.leaves.keeps c.note_whether_prop.ensures.leaves.keeps in
    structure_here w v c₁ c₂ (tree_at c₀ c.args.e) (name_at c₀ c.args.structure) (name_at c₂ c.args.structure) (tree_at c₀ c.args.subject) c.args.enough c.args.asked.now c.note_subject.new.asked c.args.subject c.in_ok-form.form
    (c.note_whether_prop.ensures.leaves.place ∙ c.note_subject.ensures.leaves.place) (x.names.same c.args.structure c.requires.structure_in) c.note_whether_prop.ensures.leaves.keeps c.requires.e_is c.requires.answered c.in_ok-form.ensures.noted

pub returns : goal.returns
returns g c =
    let w : Place = (g.D.Looks.sight (g.D.Terms.rest c.args.derives.now)).basis.place in
    let u : Place = (g.D.Looks.sight (g.D.Terms.rest c.note_subject.new.derives)).basis.place in
    let v : Place = (g.D.Looks.sight (g.D.Terms.rest c.note_whether_prop.new.derives)).basis.place in
    let c₀ : Contents = g.D.Terms.contents c.args.derives.now in
    let c₁ : Contents = g.D.Terms.contents c.note_subject.new.derives in
    let c₂ : Contents = g.D.Terms.contents c.note_whether_prop.new.derives in
    let c₃ : Contents = g.D.Terms.contents c.constructor_of.new.looks in
    let made = leaves_made g.D.Terms.contents g.D.Terms.rest g.D.Looks.sight c.note_whether_prop.new.derives c.constructor_of.new.looks c.constructor_of.ensures.keeps c.constructor_of.ensures.stays in
    record {
      leaves = leaves_then g.D.Terms.contents g.D.Terms.rest g.D.Looks.sight c.args.derives.now c.note_subject.new.derives c.constructor_of.new.looks c.note_subject.ensures.leaves
          (leaves_then g.D.Terms.contents g.D.Terms.rest g.D.Looks.sight c.note_subject.new.derives c.note_whether_prop.new.derives c.constructor_of.new.looks c.note_whether_prop.ensures.leaves made);
      begun = begun_at w u v c.requires.well_stated c₀ c₁ c₂ c₃ c.args.e c.args.structure c.args.subject c.args.enough c.args.asked.now c.note_subject.new.asked c.note_whether_prop.new.asked c.in_ok-form.form c.in_ok-prop.prop c.in_ok-stated.stated
          c.note_subject.ensures.leaves.keeps c.note_whether_prop.ensures.leaves.keeps c.constructor_of.ensures.keeps c.note_subject.ensures.leaves.place (c.note_whether_prop.ensures.leaves.place ∙ c.note_subject.ensures.leaves.place)
          c.requires.e_in c.requires.structure_in c.requires.subject_in c.requires.e_is c.requires.askable c.requires.answered c.requires.nothing c.in_ok-form.ensures.noted c.in_ok-prop.ensures.noted c.in_ok-stated.ensures.ok;
    }
