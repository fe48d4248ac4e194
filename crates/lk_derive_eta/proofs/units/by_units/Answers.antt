use Rattle.std.proofs.Common.{◌≡◌, Some, false, sym, ◌∙◌, subst}
use Rattle.lk_tree.specs.Tree.{Tree}
use Rattle.lk_rulebook.specs.Place.{Place}
use Rattle.lk_rulebook.specs.Claims.{equals}
use Rattle.lk_questions.specs.Query.{whnf}
use Rattle.lk_questions.specs.Eta.{by_unit_eta}
use Rattle.lk_store.specs.Contents.{Contents, tree_at}
use Rattle.lk_step.specs.Told.{IsAnsweredWithin, IsForm, IsType}
use Rattle.lk_step.specs.Tells.{Tells}
use Rattle.lk_step.proofs.Moving.{moved1, moved2, back2, leaves_on, tree_stays, tree_in}
use Rattle.lk_derive_eta.specs.Open.{IsNotNo}
use Rattle.lk_derive_eta.specs.Units.{has_one_value}
use Rattle.lk_derive_eta.proofs.UnitLine.{unit_type, unit_form, unit_other}
use Rattle.lk_derive_eta.proofs.units.by_units.Goals as goal

pub type_of-requires-clause-answered : goal.type_of-requires-clause-answered
type_of-requires-clause-answered g c =
    let w : Place = (g.D.Looks.sight (g.D.Terms.rest c.args.derives.now)).basis.place in
    let d : Contents = g.D.Terms.contents c.args.derives.now in
    unit_type w (tree_at d c.args.a) (tree_at d c.args.b) c.args.enough c.requires.run

pub form_of-requires-clause-answered : goal.form_of-requires-clause-answered
form_of-requires-clause-answered g c =
    let w : Place = (g.D.Looks.sight (g.D.Terms.rest c.args.derives.now)).basis.place in
    let d : Contents = g.D.Terms.contents c.args.derives.now in
    let A : Tree = tree_at (g.D.Terms.contents c.type_of.new.derives) c.in_ok-ty.ty in
    subst (λ w. IsAnsweredWithin w (whnf A) c.args.enough) (sym c.in_ok-ty.ensures.leaves.place)
    (unit_form w (tree_at d c.args.a) (tree_at d c.args.b) A c.args.enough c.requires.run c.in_ok-ty.ensures.told)

pub returns-then-not-branch-clause-tells : goal.returns-then-not-branch-clause-tells
returns-then-not-branch-clause-tells g c =
    let w : Place = (g.D.Looks.sight (g.D.Terms.rest c.args.derives.now)).basis.place in
    let d : Contents = g.D.Terms.contents c.args.derives.now in
    let n : Contents = g.D.Terms.contents c.form_of.new.derives in
    let l1 = c.in_ok-ty.ensures.leaves in
    let l2 = c.in_ok-form.ensures.leaves in
    let A : Tree = tree_at (g.D.Terms.contents c.type_of.new.derives) c.in_ok-ty.ty in
    let T : Tree = tree_at n c.in_ok-form.form in
    let f : IsForm w A T = subst (λ w. IsForm w A T) l1.place c.in_ok-form.ensures.told in
    let e : has_one_value w T ≡ false = subst (λ w. has_one_value w T ≡ false) (l1.place) (subst (λ w. has_one_value w T ≡ false) l2.place (sym c.in_ok-has_one_value.ensures ∙ c.if-not-branch.true)) in
    λ says cost h. unit_other w (tree_at d c.args.a) (tree_at d c.args.b) A T c.in_ok-ty.ensures.told f e says cost h

pub of_one_value-requires-clause-one : goal.of_one_value-requires-clause-one
of_one_value-requires-clause-one g c =
    let w : Place = (g.D.Looks.sight (g.D.Terms.rest c.args.derives.now)).basis.place in
    let w2 : Place = (g.D.Looks.sight (g.D.Terms.rest c.form_of.new.derives)).basis.place in
    let d : Contents = g.D.Terms.contents c.args.derives.now in
    let n : Contents = g.D.Terms.contents c.form_of.new.derives in
    let l1 = c.in_ok-ty.ensures.leaves in
    let l2 = c.in_ok-form.ensures.leaves in
    let A : Tree = tree_at (g.D.Terms.contents c.type_of.new.derives) c.in_ok-ty.ty in
    let ty_same : tree_at n c.in_ok-ty.ty ≡ A = tree_stays l2 c.in_ok-ty.ty c.in_ok-ty.ensures.known in
    let T : Tree = tree_at n c.in_ok-form.form in
    record {
      ty_in = tree_in l2 c.in_ok-ty.ty c.in_ok-ty.ensures.known;
      form_in = c.in_ok-form.ensures.known;
      typed = moved1 (leaves_on l1 l2) (λ w e. IsType w e (tree_at n c.in_ok-ty.ty)) c.args.a c.requires.a_in (subst (λ T. IsType w (tree_at d c.args.a) T) (sym ty_same) c.in_ok-ty.ensures.told);
      formed = moved1 l2 (λ w e. IsForm w e T) c.in_ok-ty.ty c.in_ok-ty.ensures.known c.in_ok-form.ensures.told;
      one = sym c.in_ok-has_one_value.ensures ∙ c.if-not-branch.false;
    }

pub of_one_value-requires-clause-run : goal.of_one_value-requires-clause-run
of_one_value-requires-clause-run g c =
    moved2 (leaves_on c.in_ok-ty.ensures.leaves c.in_ok-form.ensures.leaves) (λ w a b. IsNotNo w (by_unit_eta a b) c.args.enough) c.args.a c.args.b c.requires.a_in c.requires.b_in c.requires.run

pub returns-clause-tells : goal.returns-clause-tells
returns-clause-tells g c =
    let n : Contents = g.D.Terms.contents c.of_one_value.new.derives in
    back2 (leaves_on c.in_ok-ty.ensures.leaves c.in_ok-form.ensures.leaves) (λ w a b. Tells w n (by_unit_eta a b) (equals a b) (Some c.in_ok-row.row)) c.args.a c.args.b c.requires.a_in c.requires.b_in c.in_ok-row.ensures.tells
