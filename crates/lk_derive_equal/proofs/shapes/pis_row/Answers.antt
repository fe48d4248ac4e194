use Rattle.std.proofs.Common.{ℕ, ◌≡◌}
use Rattle.lk_tree.specs.Tree.{Tree}
use Rattle.lk_rulebook.specs.Place.{Place}
use Rattle.lk_rulebook.specs.Claims.{equals}
use Rattle.lk_store.specs.Contents.{Contents, tree_at}
use Rattle.std.proofs.lemmas.Result.{IfOk-weaker}
use Rattle.lk_questions.specs.Same.{by_shape}
use Rattle.lk_step.specs.Tells.{Rests}
use Rattle.lk_step.proofs.Bases.{basis_made}
use Rattle.lk_derive_equal.specs.Binders.{local_of}
use Rattle.lk_tree.specs.Bind.{opened}
use Rattle.lk_derive_equal.proofs.ShapeRows.{pis_basis}
use Rattle.lk_derive_equal.proofs.shapes.pis_row.Goals as goal

pub returns-clause-rests : goal.returns-clause-rests
returns-clause-rests g c =
    let w : Place = (g.D.Looks.sight (g.D.Terms.rest c.args.derives.now)).basis.place in
    let d : Contents = g.D.Terms.contents c.args.derives.now in
    let a : ℕ = c.args.a in
    let b : ℕ = c.args.b in
    let n : Contents = g.D.Terms.contents c.open_both.new.looks in
    let x = c.in_ok-bodies.ensures.keeps in
    let o = c.in_ok-bodies.ensures.opened in
    let f = c.args.first in
    let s = c.args.second in
    let bodies = c.in_ok-bodies.bodies in
    let A : Tree = tree_at d f.domain in
    let domain_same : tree_at n f.domain ≡ A = x.trees.same f.domain c.requires.first_in.domain_in in
    let other_same : tree_at n s.domain ≡ tree_at d s.domain = x.trees.same s.domain c.requires.second_in.domain_in in
    let a_same : tree_at n a ≡ tree_at d a = x.trees.same a c.requires.a_in in
    let b_same : tree_at n b ≡ tree_at d b = x.trees.same b c.requires.b_in in
    let local_is : tree_at n bodies.local ≡ local_of (tree_at d a) (tree_at d b) A = o.local_is in
    let left_is : tree_at n bodies.left ≡ opened (tree_at d f.body) (local_of (tree_at d a) (tree_at d b) A) = o.left_is in
    let right_is : tree_at n bodies.right ≡ opened (tree_at d s.body) (local_of (tree_at d a) (tree_at d b) A) = o.right_is in
    IfOk-weaker c.bodies_row.result _ (Rests w n (by_shape (tree_at d a) (tree_at d b)) (equals (tree_at d a) (tree_at d b)))
    (λ r made cost h. basis_made w n (equals (tree_at d a) (tree_at d b)) cost _ _ r made
    (rw (domain_same, other_same, a_same, b_same, local_is, left_is, right_is)
    (pis_basis w (tree_at d a) (tree_at d b) A (tree_at d f.body) (tree_at d s.domain) (tree_at d s.body) c.requires.a_is c.requires.b_is c.requires.pair.left c.requires.pair.right cost h)))
    c.bodies_row.ensures.row
