use Rattle.std.proofs.Common.{◌≡◌, Bool, false, sym, subst}
use Rattle.lk_tree.specs.Tree.{Tree}
use Rattle.lk_rulebook.specs.Place.{Place}
use Rattle.lk_rulebook.specs.Claims.{equals}
use Rattle.lk_questions.specs.Query.{same}
use Rattle.lk_store.specs.Contents.{Contents, level_at, tree_at}
use Rattle.lk_step.specs.Told.{IsAnsweredWithin, IsSame}
use Rattle.lk_step.proofs.Moving.{moved1, back1, leaves_on, tree_stays}
use Rattle.lk_step.proofs.Bases.{basis_made}
use Rattle.lk_derive_equal.proofs.ProofLine.{proof_right, proof_same, proof_ends, proof_basis}
use Rattle.lk_derive_equal.proofs.proofs.by_types.Goals as goal

pub type_of-requires-clause-answered : goal.type_of-requires-clause-answered
type_of-requires-clause-answered g c =
    let w : Place = (g.D.Looks.sight (g.D.Terms.rest c.args.derives.now)).basis.place in
    let d : Contents = g.D.Terms.contents c.args.derives.now in
    let s = c.args.sort in
    let p = c.requires.proof in
    proof_right w (tree_at d c.args.a) (tree_at d c.args.b) (tree_at d c.args.left) (tree_at d s.ty) (tree_at d s.form) (level_at d s.level)
    p.typed p.sorted.typed p.sorted.formed p.sorted.form_is p.zero c.args.enough c.requires.run

pub are_same-requires-clause-answered : goal.are_same-requires-clause-answered
are_same-requires-clause-answered g c =
    let w : Place = (g.D.Looks.sight (g.D.Terms.rest c.args.derives.now)).basis.place in
    let d : Contents = g.D.Terms.contents c.args.derives.now in
    let s = c.args.sort in
    let p = c.requires.proof in
    let B : Tree = tree_at (g.D.Terms.contents c.type_of.new.derives) c.in_ok-right.right in
    moved1 c.in_ok-right.ensures.leaves (λ w A. IsAnsweredWithin w (same A B) c.args.enough) c.args.left c.requires.left_in
    (proof_same w (tree_at d c.args.a) (tree_at d c.args.b) (tree_at d c.args.left) (tree_at d s.ty) (tree_at d s.form) (level_at d s.level)
    p.typed p.sorted.typed p.sorted.formed p.sorted.form_is p.zero B c.in_ok-right.ensures.told c.args.enough c.requires.run)

pub returns-then-not-branch-clause-tells : goal.returns-then-not-branch-clause-tells
returns-then-not-branch-clause-tells g c =
    let w : Place = (g.D.Looks.sight (g.D.Terms.rest c.args.derives.now)).basis.place in
    let d : Contents = g.D.Terms.contents c.args.derives.now in
    let s = c.args.sort in
    let p = c.requires.proof in
    let A : Tree = tree_at d c.args.left in
    let B : Tree = tree_at (g.D.Terms.contents c.type_of.new.derives) c.in_ok-right.right in
    let same_types : IsSame w A B c.in_ok-are_same.field-0 = back1 c.in_ok-right.ensures.leaves (λ w A. IsSame w A B c.in_ok-are_same.field-0) c.args.left c.requires.left_in c.in_ok-are_same.ensures.told in
    let unequal : IsSame w A B false = subst (λ y. IsSame w A B y) c.if-not-branch.true same_types in
    λ says cost h. sym (proof_ends w (tree_at d c.args.a) (tree_at d c.args.b) A (tree_at d s.ty) (tree_at d s.form) (level_at d s.level)
    p.typed p.sorted.typed p.sorted.formed p.sorted.form_is p.zero B c.in_ok-right.ensures.told false unequal says cost h)

pub returns-clause-tells : goal.returns-clause-tells
returns-clause-tells g c =
    let w : Place = (g.D.Looks.sight (g.D.Terms.rest c.args.derives.now)).basis.place in
    let d : Contents = g.D.Terms.contents c.args.derives.now in
    let m : Contents = g.D.Terms.contents c.type_of.new.derives in
    let n : Contents = g.D.Terms.contents c.are_same.new.derives in
    let s = c.args.sort in
    let p = c.requires.proof in
    let y : Bool = c.in_ok-are_same.field-0 in
    let A : Tree = tree_at d c.args.left in
    let B : Tree = tree_at m c.in_ok-right.right in
    let first = c.in_ok-right.ensures.leaves in
    let all = leaves_on first c.in_ok-are_same.ensures.leaves in
    let same_types : IsSame w A B y = back1 first (λ w A. IsSame w A B y) c.args.left c.requires.left_in c.in_ok-are_same.ensures.told in
    let a_same : tree_at n c.args.a ≡ tree_at d c.args.a = tree_stays all c.args.a c.requires.a_in in
    let b_same : tree_at n c.args.b ≡ tree_at d c.args.b = tree_stays all c.args.b c.requires.b_in in
    let left_same : tree_at n c.args.left ≡ A = tree_stays all c.args.left c.requires.left_in in
    let ty_same : tree_at n s.ty ≡ tree_at d s.ty = tree_stays all s.ty p.sorted.known.ty_in in
    let form_same : tree_at n s.form ≡ tree_at d s.form = tree_stays all s.form p.sorted.known.form_in in
    let right_same : tree_at n c.in_ok-right.right ≡ B = tree_stays c.in_ok-are_same.ensures.leaves c.in_ok-right.right c.in_ok-right.ensures.known in
    λ says cost h. basis_made w n (equals (tree_at d c.args.a) (tree_at d c.args.b)) cost _ _ c.in_ok-row.row c.in_ok-row.ensures.row
    (rw (a_same, b_same, left_same, ty_same, form_same, right_same)
    (proof_basis w (tree_at d c.args.a) (tree_at d c.args.b) A (tree_at d s.ty) (tree_at d s.form) (level_at d s.level)
    p.typed p.sorted.typed p.sorted.formed p.sorted.form_is p.zero B c.in_ok-right.ensures.told y same_types c.if-not-branch.false c.requires.pair says cost h))
