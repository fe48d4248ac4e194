use Rattle.std.proofs.Common.{ℕ, ◌≡◌, true, false, sym, subst}
use Rattle.std.specs.Prelude.{IfOk}
use Rattle.lk_tree.specs.Tree.{Tree}
use Rattle.lk_rulebook.specs.Place.{Place}
use Rattle.lk_rulebook.specs.Claims.{equals}
use Rattle.lk_store.specs.Contents.{Contents, tree_at}
use Rattle.lk_questions.specs.Query.{whnf}
use Rattle.lk_questions.specs.Same.{by_function_eta, is_lam}
use Rattle.lk_step.specs.Told.{IsAnsweredWithin, IsForm, IsType}
use Rattle.lk_step.specs.Tests.{IsRun}
use Rattle.lk_step.specs.Tells.{Tells}
use Rattle.lk_step.proofs.Moving.{moved1, moved2, back2, leaves_on, tree_stays, tree_in}
use Rattle.lk_derive_equal.proofs.EtaLine.{type_asked2, form_asked2, no_pi2}
use Rattle.lk_derive_equal.proofs.functions.by_second.Goals as goal

pub type_of-requires-clause-answered : goal.type_of-requires-clause-answered
type_of-requires-clause-answered g c =
    let w : Place = (g.D.Looks.sight (g.D.Terms.rest c.args.derives.now)).basis.place in
    let d : Contents = g.D.Terms.contents c.args.derives.now in
    let a : ℕ = c.args.a in
    let b : ℕ = c.args.b in
    type_asked2 w (tree_at d a) (tree_at d b) c.requires.lambda c.requires.other c.args.enough c.requires.run

pub form_of-requires-clause-answered : goal.form_of-requires-clause-answered
form_of-requires-clause-answered g c =
    let w : Place = (g.D.Looks.sight (g.D.Terms.rest c.args.derives.now)).basis.place in
    let d : Contents = g.D.Terms.contents c.args.derives.now in
    let a : ℕ = c.args.a in
    let b : ℕ = c.args.b in
    let T : Tree = tree_at (g.D.Terms.contents c.type_of.new.derives) c.in_ok-ty.ty in
    subst (λ w. IsAnsweredWithin w (whnf T) c.args.enough) (sym c.in_ok-ty.ensures.leaves.place)
    (form_asked2 w (tree_at d a) (tree_at d b) c.requires.lambda c.requires.other T c.in_ok-ty.ensures.told c.args.enough c.requires.run)

pub returns-in_default-clause-tells : goal.returns-in_default-clause-tells
returns-in_default-clause-tells g c =
    let w : Place = (g.D.Looks.sight (g.D.Terms.rest c.args.derives.now)).basis.place in
    let d : Contents = g.D.Terms.contents c.args.derives.now in
    let a : ℕ = c.args.a in
    let b : ℕ = c.args.b in
    let m : Contents = g.D.Terms.contents c.type_of.new.derives in
    let n : Contents = g.D.Terms.contents c.form_of.new.derives in
    let l1 = c.in_ok-ty.ensures.leaves in
    let l2 = c.in_ok-form.ensures.leaves in
    let T : Tree = tree_at m c.in_ok-ty.ty in
    let P : Tree = tree_at n c.in_ok-form.form in
    let t : IsType w (tree_at d b) T = c.in_ok-ty.ensures.told in
    let f : IsForm w T P = subst (λ w. IsForm w T P) l1.place c.in_ok-form.ensures.told in
    λ says cost h. no_pi2 w (tree_at d a) (tree_at d b) c.requires.lambda c.requires.other T t P f n c.view.result c.in_default.not-Pi c.view.ensures.tree says cost h

pub second_long-requires-clause-other : goal.second_long-requires-clause-other
second_long-requires-clause-other g c =
    let w : Place = (g.D.Looks.sight (g.D.Terms.rest c.args.derives.now)).basis.place in
    let d : Contents = g.D.Terms.contents c.args.derives.now in
    let a : ℕ = c.args.a in
    let b : ℕ = c.args.b in
    let m : Contents = g.D.Terms.contents c.type_of.new.derives in
    let n : Contents = g.D.Terms.contents c.form_of.new.derives in
    let l1 = c.in_ok-ty.ensures.leaves in
    let l2 = c.in_ok-form.ensures.leaves in
    let T : Tree = tree_at m c.in_ok-ty.ty in
    let P : Tree = tree_at n c.in_ok-form.form in
    let t : IsType w (tree_at d b) T = c.in_ok-ty.ensures.told in
    let f : IsForm w T P = subst (λ w. IsForm w T P) l1.place c.in_ok-form.ensures.told in
    moved1 (leaves_on l1 l2) (λ w e. is_lam e ≡ false) b c.requires.b_in c.requires.other

pub second_long-requires-clause-lambda : goal.second_long-requires-clause-lambda
second_long-requires-clause-lambda g c =
    let w : Place = (g.D.Looks.sight (g.D.Terms.rest c.args.derives.now)).basis.place in
    let d : Contents = g.D.Terms.contents c.args.derives.now in
    let a : ℕ = c.args.a in
    let b : ℕ = c.args.b in
    let m : Contents = g.D.Terms.contents c.type_of.new.derives in
    let n : Contents = g.D.Terms.contents c.form_of.new.derives in
    let l1 = c.in_ok-ty.ensures.leaves in
    let l2 = c.in_ok-form.ensures.leaves in
    let T : Tree = tree_at m c.in_ok-ty.ty in
    let P : Tree = tree_at n c.in_ok-form.form in
    let t : IsType w (tree_at d b) T = c.in_ok-ty.ensures.told in
    let f : IsForm w T P = subst (λ w. IsForm w T P) l1.place c.in_ok-form.ensures.told in
    moved1 (leaves_on l1 l2) (λ w e. is_lam e ≡ true) a c.requires.a_in c.requires.lambda

pub second_long-requires-clause-run : goal.second_long-requires-clause-run
second_long-requires-clause-run g c =
    let w : Place = (g.D.Looks.sight (g.D.Terms.rest c.args.derives.now)).basis.place in
    let d : Contents = g.D.Terms.contents c.args.derives.now in
    let a : ℕ = c.args.a in
    let b : ℕ = c.args.b in
    let m : Contents = g.D.Terms.contents c.type_of.new.derives in
    let n : Contents = g.D.Terms.contents c.form_of.new.derives in
    let l1 = c.in_ok-ty.ensures.leaves in
    let l2 = c.in_ok-form.ensures.leaves in
    let T : Tree = tree_at m c.in_ok-ty.ty in
    let P : Tree = tree_at n c.in_ok-form.form in
    let t : IsType w (tree_at d b) T = c.in_ok-ty.ensures.told in
    let f : IsForm w T P = subst (λ w. IsForm w T P) l1.place c.in_ok-form.ensures.told in
    moved2 (leaves_on l1 l2) (λ w e f. IsRun w (by_function_eta e f) c.args.enough) a b c.requires.a_in c.requires.b_in c.requires.run

pub second_long-requires-clause-typed : goal.second_long-requires-clause-typed
second_long-requires-clause-typed g c =
    let w : Place = (g.D.Looks.sight (g.D.Terms.rest c.args.derives.now)).basis.place in
    let d : Contents = g.D.Terms.contents c.args.derives.now in
    let a : ℕ = c.args.a in
    let b : ℕ = c.args.b in
    let m : Contents = g.D.Terms.contents c.type_of.new.derives in
    let n : Contents = g.D.Terms.contents c.form_of.new.derives in
    let l1 = c.in_ok-ty.ensures.leaves in
    let l2 = c.in_ok-form.ensures.leaves in
    let T : Tree = tree_at m c.in_ok-ty.ty in
    let P : Tree = tree_at n c.in_ok-form.form in
    let t : IsType w (tree_at d b) T = c.in_ok-ty.ensures.told in
    let f : IsForm w T P = subst (λ w. IsForm w T P) l1.place c.in_ok-form.ensures.told in
    let w2 : Place = (g.D.Looks.sight (g.D.Terms.rest c.form_of.new.derives)).basis.place in
    let ty_same : tree_at n c.in_ok-ty.ty ≡ T = tree_stays l2 c.in_ok-ty.ty c.in_ok-ty.ensures.known in
    let typed : IsType w2 (tree_at n b) (tree_at n c.in_ok-ty.ty) = moved1 (leaves_on l1 l2) (λ w e. IsType w e (tree_at n c.in_ok-ty.ty)) b c.requires.b_in (subst (λ T. IsType w (tree_at d b) T) (sym ty_same) t) in
    let formed : IsForm w2 (tree_at n c.in_ok-ty.ty) P = moved1 l2 (λ w e. IsForm w e P) c.in_ok-ty.ty c.in_ok-ty.ensures.known c.in_ok-form.ensures.told in
    record {
      ty_in = tree_in l2 c.in_ok-ty.ty c.in_ok-ty.ensures.known;
      form_in = c.in_ok-form.ensures.known;
      domain_in = c.in-Pi.ensures.known.0;
      codomain_in = c.in-Pi.ensures.known.1;
      typed = typed;
      formed = formed;
      form_is = sym c.in-Pi.ensures.tree;
    }

pub returns-in-Pi-clause-tells : goal.returns-in-Pi-clause-tells
returns-in-Pi-clause-tells g c =
    let w : Place = (g.D.Looks.sight (g.D.Terms.rest c.args.derives.now)).basis.place in
    let d : Contents = g.D.Terms.contents c.args.derives.now in
    let a : ℕ = c.args.a in
    let b : ℕ = c.args.b in
    let m : Contents = g.D.Terms.contents c.type_of.new.derives in
    let n : Contents = g.D.Terms.contents c.form_of.new.derives in
    let l1 = c.in_ok-ty.ensures.leaves in
    let l2 = c.in_ok-form.ensures.leaves in
    let T : Tree = tree_at m c.in_ok-ty.ty in
    let P : Tree = tree_at n c.in_ok-form.form in
    let t : IsType w (tree_at d b) T = c.in_ok-ty.ensures.told in
    let f : IsForm w T P = subst (λ w. IsForm w T P) l1.place c.in_ok-form.ensures.told in
    let r : Contents = g.D.Terms.contents c.second_long.new.derives in
    back2 (leaves_on l1 l2) (λ w e f. IfOk c.second_long.result (Tells w r (by_function_eta e f) (equals e f))) a b c.requires.a_in c.requires.b_in c.second_long.ensures.tells
