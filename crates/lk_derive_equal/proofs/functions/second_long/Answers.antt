use Rattle.std.proofs.Common.{ℕ, ◌≡◌, Bool, false, sym, ◌∙◌, subst}
use Rattle.lk_tree.specs.Tree.{Tree}
use Rattle.lk_rulebook.specs.Place.{Place}
use Rattle.lk_rulebook.specs.Claims.{equals}
use Rattle.lk_store.specs.Contents.{Contents, tree_at}
use Rattle.lk_questions.specs.Query.{same}
use Rattle.lk_questions.specs.Same.{eta_long}
use Rattle.lk_step.specs.Told.{IsAnsweredWithin, IsSame, Leaves}
use Rattle.lk_step.proofs.Moving.{moved1, back1, leaves_on, leaves_made, tree_stays}
use Rattle.lk_step.proofs.Bases.{basis_made}
use Rattle.lk_derive_equal.proofs.EtaLine.{lambda_of, long_asked2, ends2, basis2}
use Rattle.lk_derive_equal.proofs.functions.second_long.Goals as goal

pub are_same-requires-clause-answered : goal.are_same-requires-clause-answered
are_same-requires-clause-answered g c =
    let w : Place = (g.D.Looks.sight (g.D.Terms.rest c.args.derives.now)).basis.place in
    let d : Contents = g.D.Terms.contents c.args.derives.now in
    let a : ℕ = c.args.a in
    let b : ℕ = c.args.b in
    let s = c.args.typed in
    let p = c.requires.typed in
    let m : Contents = g.D.Terms.contents c.long.new.terms in
    let w1 : Place = (g.D.Looks.sight (g.D.Terms.rest c.long.new.terms)).basis.place in
    let l1 : Leaves g.D.Terms.contents g.D.Terms.rest g.D.Looks.sight c.args.derives.now c.long.new.terms = leaves_made g.D.Terms.contents g.D.Terms.rest g.D.Looks.sight c.args.derives.now c.long.new.terms c.long.ensures.keeps c.long.ensures.stays in
    let L : Tree = eta_long (tree_at d s.domain) (tree_at d b) in
    let other : ℕ = c.in_ok-other.other in
    let other_is : tree_at m other ≡ L = c.in_ok-other.ensures.ok.is in
    subst (λ x. IsAnsweredWithin w1 (same (tree_at m a) x) c.args.enough) (sym other_is)
    (moved1 l1 (λ w x. IsAnsweredWithin w (same x (L)) c.args.enough) a c.requires.a_in
    (long_asked2 w (tree_at d a) (tree_at d b) c.requires.lambda c.requires.other (tree_at d s.ty) p.typed (tree_at d s.form) p.formed (tree_at d s.domain) (tree_at d s.codomain) p.form_is c.args.enough c.requires.run))

pub returns-then-not-branch-clause-tells : goal.returns-then-not-branch-clause-tells
returns-then-not-branch-clause-tells g c =
    let w : Place = (g.D.Looks.sight (g.D.Terms.rest c.args.derives.now)).basis.place in
    let d : Contents = g.D.Terms.contents c.args.derives.now in
    let a : ℕ = c.args.a in
    let b : ℕ = c.args.b in
    let s = c.args.typed in
    let p = c.requires.typed in
    let m : Contents = g.D.Terms.contents c.long.new.terms in
    let n : Contents = g.D.Terms.contents c.are_same.new.derives in
    let w1 : Place = (g.D.Looks.sight (g.D.Terms.rest c.long.new.terms)).basis.place in
    let l1 : Leaves g.D.Terms.contents g.D.Terms.rest g.D.Looks.sight c.args.derives.now c.long.new.terms = leaves_made g.D.Terms.contents g.D.Terms.rest g.D.Looks.sight c.args.derives.now c.long.new.terms c.long.ensures.keeps c.long.ensures.stays in
    let L : Tree = eta_long (tree_at d s.domain) (tree_at d b) in
    let other : ℕ = c.in_ok-other.other in
    let other_is : tree_at m other ≡ L = c.in_ok-other.ensures.ok.is in
    let y : Bool = c.in_ok-are_same.field-0 in
    let same_long : IsSame w (tree_at d a) (L) y = back1 l1 (λ w x. IsSame w x (L) y) a c.requires.a_in (subst (λ x. IsSame w1 (tree_at m a) x y) other_is c.in_ok-are_same.ensures.told) in
    let unequal : IsSame w (tree_at d a) (L) false = subst (λ y. IsSame w (tree_at d a) (L) y) c.if-not-branch.true same_long in
    λ says cost h. sym (ends2 w (tree_at d a) (tree_at d b) c.requires.lambda c.requires.other (tree_at d s.ty) p.typed (tree_at d s.form) p.formed (tree_at d s.domain) (tree_at d s.codomain) p.form_is false unequal says cost h)

pub returns-clause-tells : goal.returns-clause-tells
returns-clause-tells g c =
    let w : Place = (g.D.Looks.sight (g.D.Terms.rest c.args.derives.now)).basis.place in
    let d : Contents = g.D.Terms.contents c.args.derives.now in
    let a : ℕ = c.args.a in
    let b : ℕ = c.args.b in
    let s = c.args.typed in
    let p = c.requires.typed in
    let m : Contents = g.D.Terms.contents c.long.new.terms in
    let n : Contents = g.D.Terms.contents c.are_same.new.derives in
    let w1 : Place = (g.D.Looks.sight (g.D.Terms.rest c.long.new.terms)).basis.place in
    let l1 : Leaves g.D.Terms.contents g.D.Terms.rest g.D.Looks.sight c.args.derives.now c.long.new.terms = leaves_made g.D.Terms.contents g.D.Terms.rest g.D.Looks.sight c.args.derives.now c.long.new.terms c.long.ensures.keeps c.long.ensures.stays in
    let L : Tree = eta_long (tree_at d s.domain) (tree_at d b) in
    let other : ℕ = c.in_ok-other.other in
    let other_is : tree_at m other ≡ L = c.in_ok-other.ensures.ok.is in
    let y : Bool = c.in_ok-are_same.field-0 in
    let same_long : IsSame w (tree_at d a) (L) y = back1 l1 (λ w x. IsSame w x (L) y) a c.requires.a_in (subst (λ x. IsSame w1 (tree_at m a) x y) other_is c.in_ok-are_same.ensures.told) in
    let l2 = c.in_ok-are_same.ensures.leaves in
    let all : Leaves g.D.Terms.contents g.D.Terms.rest g.D.Looks.sight c.args.derives.now c.are_same.new.derives = leaves_on l1 l2 in
    let a_same : tree_at n a ≡ tree_at d a = tree_stays all a c.requires.a_in in
    let b_same : tree_at n b ≡ tree_at d b = tree_stays all b c.requires.b_in in
    let ty_same : tree_at n s.ty ≡ tree_at d s.ty = tree_stays all s.ty p.ty_in in
    let form_same : tree_at n s.form ≡ tree_at d s.form = tree_stays all s.form p.form_in in
    let other_same : tree_at n other ≡ L = tree_stays l2 other c.in_ok-other.ensures.ok.known ∙ other_is in
    λ says cost h. basis_made w n (equals (tree_at d a) (tree_at d b)) cost _ _ c.in_ok-row.row c.in_ok-row.ensures.row
    (rw (a_same, b_same, ty_same, form_same, other_same)
    (basis2 w (tree_at d a) (tree_at d b) c.requires.lambda c.requires.other (tree_at d s.ty) p.typed (tree_at d s.form) p.formed (tree_at d s.domain) (tree_at d s.codomain) p.form_is y same_long c.if-not-branch.false c.requires.pair (lambda_of (tree_at d a) c.requires.lambda) says cost h))
