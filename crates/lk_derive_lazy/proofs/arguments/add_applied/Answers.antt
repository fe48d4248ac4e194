use Rattle.std.proofs.Common.{◌≡◌, ◌<◌, ◌∷◌, length, refl, ap, arith}
use Rattle.std.proofs.lemmas.Bool.Decides.{nat_tests}
use Rattle.lk_rulebook.specs.Claims.{equals}
use Rattle.lk_store.specs.Contents.{Contents, tree_at}
use Rattle.lk_premises.specs.Claims.{claims_at}
use Rattle.lk_derive_lazy.proofs.Spines.{bare_stated, applied_holds}
use Rattle.lk_derive_lazy.proofs.arguments.add_applied.Goals as goal

pub returns-then-is_empty : goal.returns-then-is_empty
returns-then-is_empty g c = λ w two.
    let d : Contents = g.L.Terms.contents c.args.looks.now in
    let none : length c.args.arguments.now ≡ 0 = (let e = c.if-is_empty.true in let f = c.is_empty.ensures in grind (arith, nat_tests)) in
    bare_stated d c.args.a c.args.b c.args.found.now c.requires.alike c.args.arguments.now c.requires.applied none w c.args.row.now

pub returns : goal.returns
returns g c = λ w two.
    let d : Contents = g.L.Terms.contents c.args.looks.now in
    let some : 0 < length c.args.arguments.now = (let e = c.if-is_empty.false in let f = c.is_empty.ensures in grind (arith, nat_tests)) in
    c.in_ok-add_equality.ensures w (tree_at d c.args.a) (tree_at d c.args.b) (equals (tree_at d c.args.found.now.left) (tree_at d c.args.found.now.right) ∷ claims_at d c.args.arguments.now) refl refl (ap (claims_at d) c.in_ok-premises.ensures)
    (applied_holds d c.args.a c.args.b c.args.found.now c.requires.alike c.args.arguments.now c.requires.applied some w two)
