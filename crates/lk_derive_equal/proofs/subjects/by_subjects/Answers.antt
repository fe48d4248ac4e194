use Rattle.std.proofs.Common.{ℕ, ◌≡◌, ◌&&◌, nat_eq, Bool, true, false, sym, ◌∙◌, subst}
use Rattle.lk_rulebook.specs.Place.{Place}
use Rattle.lk_rulebook.specs.Claims.{equals}
use Rattle.lk_store.specs.Contents.{Contents, name_at, tree_at}
use Rattle.lk_tree.specs.Mentions.{same_name}
use Rattle.lk_step.specs.Told.{IsSame}
use Rattle.lk_step.proofs.Moving.{tree_stays}
use Rattle.lk_step.proofs.Bases.{basis_made}
use Rattle.lk_derive_equal.proofs.SubjectLine.{subjects_other, subjects_asks, subjects_end, subjects_basis}
use Rattle.lk_derive_equal.proofs.subjects.by_subjects.Goals as goal

pub returns-then-not-are_alike-clause-tells : goal.returns-then-not-are_alike-clause-tells
returns-then-not-are_alike-clause-tells g c =
    let w : Place = (g.D.Looks.sight (g.D.Terms.rest c.args.derives.now)).basis.place in
    let d : Contents = g.D.Terms.contents c.args.derives.now in
    let a : ℕ = c.args.a in
    let b : ℕ = c.args.b in
    let p = c.args.left in
    let q = c.args.right in
    λ says cost h. subjects_other w (tree_at d a) (tree_at d b) (name_at d p.name) (name_at d q.name) p.field q.field (tree_at d p.subject) (tree_at d q.subject) c.requires.left_is.is c.requires.right_is.is (sym c.are_alike.ensures ∙ c.if-not-are_alike.true) says cost h

pub are_same-requires-clause-answered : goal.are_same-requires-clause-answered
are_same-requires-clause-answered g c =
    let w : Place = (g.D.Looks.sight (g.D.Terms.rest c.args.derives.now)).basis.place in
    let d : Contents = g.D.Terms.contents c.args.derives.now in
    let a : ℕ = c.args.a in
    let b : ℕ = c.args.b in
    let p = c.args.left in
    let q = c.args.right in
    subjects_asks w (tree_at d a) (tree_at d b) (name_at d p.name) (name_at d q.name) p.field q.field (tree_at d p.subject) (tree_at d q.subject) c.requires.left_is.is c.requires.right_is.is (sym c.are_alike.ensures ∙ c.if-not-are_alike.false) c.args.enough c.requires.run

pub returns-then-not-branch-clause-tells : goal.returns-then-not-branch-clause-tells
returns-then-not-branch-clause-tells g c =
    let w : Place = (g.D.Looks.sight (g.D.Terms.rest c.args.derives.now)).basis.place in
    let d : Contents = g.D.Terms.contents c.args.derives.now in
    let a : ℕ = c.args.a in
    let b : ℕ = c.args.b in
    let p = c.args.left in
    let q = c.args.right in
    let n : Contents = g.D.Terms.contents c.are_same.new.derives in
    let x = c.in_ok-are_same.ensures.leaves in
    let y : Bool = c.in_ok-are_same.field-0 in
    let alike : same_name (name_at d p.name) (name_at d q.name) && nat_eq p.field q.field ≡ true = sym c.are_alike.ensures ∙ c.if-not-are_alike.false in
    let unequal : IsSame w (tree_at d p.subject) (tree_at d q.subject) false = subst (λ y. IsSame w (tree_at d p.subject) (tree_at d q.subject) y) c.if-not-branch.true c.in_ok-are_same.ensures.told in
    λ says cost h. sym (subjects_end w (tree_at d a) (tree_at d b) (name_at d p.name) (name_at d q.name) p.field q.field (tree_at d p.subject) (tree_at d q.subject) c.requires.left_is.is c.requires.right_is.is alike false unequal says cost h)

pub returns-clause-tells : goal.returns-clause-tells
returns-clause-tells g c =
    let w : Place = (g.D.Looks.sight (g.D.Terms.rest c.args.derives.now)).basis.place in
    let d : Contents = g.D.Terms.contents c.args.derives.now in
    let a : ℕ = c.args.a in
    let b : ℕ = c.args.b in
    let p = c.args.left in
    let q = c.args.right in
    let n : Contents = g.D.Terms.contents c.are_same.new.derives in
    let x = c.in_ok-are_same.ensures.leaves in
    let y : Bool = c.in_ok-are_same.field-0 in
    let alike : same_name (name_at d p.name) (name_at d q.name) && nat_eq p.field q.field ≡ true = sym c.are_alike.ensures ∙ c.if-not-are_alike.false in
    let a_same : tree_at n a ≡ tree_at d a = tree_stays x a c.requires.a_in in
    let b_same : tree_at n b ≡ tree_at d b = tree_stays x b c.requires.b_in in
    let left_same : tree_at n p.subject ≡ tree_at d p.subject = tree_stays x p.subject c.requires.left_is.subject_in in
    let right_same : tree_at n q.subject ≡ tree_at d q.subject = tree_stays x q.subject c.requires.right_is.subject_in in
    λ says cost h. basis_made w n (equals (tree_at d a) (tree_at d b)) cost _ _ c.in_ok-row.row c.in_ok-row.ensures.row
    (rw (a_same, b_same, left_same, right_same)
    (subjects_basis w (tree_at d a) (tree_at d b) (name_at d p.name) (name_at d q.name) p.field q.field (tree_at d p.subject) (tree_at d q.subject) c.requires.left_is.is c.requires.right_is.is alike y c.in_ok-are_same.ensures.told c.if-not-branch.false c.requires.pair says cost h))
