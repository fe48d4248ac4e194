use Rattle.std.proofs.Common.{ℕ, sym, ◌∙◌}
use Rattle.lk_rulebook.specs.Place.{Place}
use Rattle.lk_rulebook.specs.Claims.{equals}
use Rattle.lk_store.specs.Contents.{Contents, name_at, list_at, tree_at}
use Rattle.lk_step.proofs.Bases.{basis_made}
use Rattle.lk_derive_equal.proofs.ConstantLine.{constants_other, constants_no, constants_basis}
use Rattle.lk_derive_equal.proofs.constants.by_constants.Goals as goal

pub returns-then-not-same_name-clause-tells : goal.returns-then-not-same_name-clause-tells
returns-then-not-same_name-clause-tells g c =
    let w : Place = (g.L.Looks.sight (g.L.Terms.rest c.args.looks.now)).basis.place in
    let d : Contents = g.L.Terms.contents c.args.looks.now in
    let a : ℕ = c.args.a in
    let b : ℕ = c.args.b in
    let p = c.args.left in
    let q = c.args.right in
    λ says cost h. constants_other w (tree_at d a) (tree_at d b) (name_at d p.name) (name_at d q.name) (list_at d p.levels) (list_at d q.levels) c.requires.left_is.is c.requires.right_is.is (sym c.same_name.ensures ∙ c.if-not-same_name.true) says cost h

pub returns-then-not-is_yes-clause-tells : goal.returns-then-not-is_yes-clause-tells
returns-then-not-is_yes-clause-tells g c =
    let w : Place = (g.L.Looks.sight (g.L.Terms.rest c.args.looks.now)).basis.place in
    let d : Contents = g.L.Terms.contents c.args.looks.now in
    let a : ℕ = c.args.a in
    let b : ℕ = c.args.b in
    let p = c.args.left in
    let q = c.args.right in
    λ says cost h. constants_no w (tree_at d a) (tree_at d b) (name_at d p.name) (name_at d q.name) (list_at d p.levels) (list_at d q.levels) c.requires.left_is.is c.requires.right_is.is (sym c.same_name.ensures ∙ c.if-not-same_name.false) c.in_ok-equal.equal c.in_ok-equal.ensures (sym c.is_yes.ensures ∙ c.if-not-is_yes.true) says cost h

pub returns-clause-tells : goal.returns-clause-tells
returns-clause-tells g c =
    let w : Place = (g.L.Looks.sight (g.L.Terms.rest c.args.looks.now)).basis.place in
    let d : Contents = g.L.Terms.contents c.args.looks.now in
    let a : ℕ = c.args.a in
    let b : ℕ = c.args.b in
    let p = c.args.left in
    let q = c.args.right in
    λ says cost h. basis_made w d (equals (tree_at d a) (tree_at d b)) cost _ _ c.in_ok-row.row c.in_ok-row.ensures.row
    (constants_basis w (tree_at d a) (tree_at d b) (name_at d p.name) (name_at d q.name) (list_at d p.levels) (list_at d q.levels) c.requires.left_is.is c.requires.right_is.is (sym c.same_name.ensures ∙ c.if-not-same_name.false) c.in_ok-equal.equal c.in_ok-equal.ensures (sym c.is_yes.ensures ∙ c.if-not-is_yes.false) cost)
