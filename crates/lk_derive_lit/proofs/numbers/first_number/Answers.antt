use Rattle.std.proofs.Common.{ℕ, ◌≡◌, ◌<◌, ◌-◌, Some, length, ap, ◌∙◌, subst, arith}
use Rattle.std.proofs.lemmas.Bool.Decides.{nat_tests}
use Rattle.lk_tree.specs.Tree.{Tree, lit}
use Rattle.lk_rulebook.specs.Place.{Place}
use Rattle.lk_store.specs.Contents.{Contents, tree_at}
use Rattle.lk_derive_lit.specs.Constructors.{IsCtorAt}
use Rattle.lk_derive_lit.specs.declared.numbers.NatCtor.TheVariants.{Zero, Succ}
use Rattle.lk_derive_lit.proofs.Counting.{first_zero, first_succ, zero_made, succ_made}
use Rattle.lk_derive_lit.proofs.numbers.first_number.Goals as goal

pub returns-in_ok-row-in-Zero-clause-tells : goal.returns-in_ok-row-in-Zero-clause-tells
returns-in_ok-row-in-Zero-clause-tells g c =
    let old : Contents = g.D.Terms.contents c.args.derives.now in
    let d : Contents = g.D.Terms.contents c.nat_ctor.new.terms in
    let w : Place = (g.D.Looks.sight (g.D.Terms.rest c.args.derives.now)).basis.place in
    let x : Tree = tree_at old c.args.a in
    let y : Tree = tree_at old c.args.b in
    let kept = c.nat_ctor.ensures.keeps.trees.same in
    let is : IsCtorAt old y (Some Zero) = subst (λ o. IsCtorAt old y o) (c.in-Some.is ∙ ap (λ z. Some z) c.in-Zero.is) c.in_ok-ctor.ensures.is in
    first_zero w d x y c.args.number c.requires.a_is c.in_ok-row-in-Zero.row is (grind (arith, nat_tests, c.if-number-ne0.false))
    (zero_made d c.in_ok-row-in-Zero.row (tree_at d c.args.a) (tree_at d c.args.b) x y (kept c.args.a c.requires.a_in) (kept c.args.b c.requires.b_in) c.in_ok-row-in-Zero.ensures.row)

pub returns-in_ok-row-in-Succ-clause-tells : goal.returns-in_ok-row-in-Succ-clause-tells
returns-in_ok-row-in-Succ-clause-tells g c =
    let old : Contents = g.D.Terms.contents c.args.derives.now in
    let one : Contents = g.D.Terms.contents c.nat_ctor.new.terms in
    let d : Contents = g.D.Terms.contents c.make.new.self in
    let w : Place = (g.D.Looks.sight (g.D.Terms.rest c.args.derives.now)).basis.place in
    let x : Tree = tree_at old c.args.a in
    let y : Tree = tree_at old c.args.b in
    let m : ℕ = c.args.number - 1 in
    let u : Tree = tree_at old c.in-Succ.argument in
    let kept = c.nat_ctor.ensures.keeps.trees.same in
    let longer = c.nat_ctor.ensures.keeps.trees.longer in
    let again = c.make.ensures.keeps.trees.same in
    let a_in = c.requires.a_in in
    let b_in = c.requires.b_in in
    let is : IsCtorAt old y (Some (Succ c.in-Succ.argument)) = subst (λ o. IsCtorAt old y o) (c.in-Some.is ∙ ap (λ z. Some z) c.in-Succ.is) c.in_ok-ctor.ensures.is in
    let known : c.in-Succ.argument < length old.trees = is.0 in
    let same : tree_at d c.in-Succ.argument ≡ u = again c.in-Succ.argument (omega (arith, longer, known)) ∙ kept c.in-Succ.argument known in
    first_succ w d x y c.args.number c.requires.a_is m u c.in_ok-row-in-Succ.row (grind (arith, nat_tests, c.if-number-eq0.false)) is.1 c.requires.undenied c.requires.pair.left c.requires.pair.right
    (succ_made d c.in_ok-row-in-Succ.row (tree_at d c.args.a) (tree_at d c.args.b) (tree_at d c.in_ok-before-in-Succ.before) (tree_at d c.in-Succ.argument) x y (lit m) u (again c.args.a (omega (arith, longer, a_in)) ∙ kept c.args.a a_in) (again c.args.b (omega (arith, longer, b_in)) ∙ kept c.args.b b_in)
    c.in_ok-before-in-Succ.ensures.ok.is same c.in_ok-row-in-Succ.ensures.row)
