use Rattle.std.proofs.Common.{subst, sym, map}
use Rattle.lk_store.specs.Contents.{tree_at}
use Rattle.lk_constructor.specs.Applied.{IsApplied}
use Rattle.lk_iota.proofs.rule.at_constructor.Goals as goal

pub returns : goal.returns
returns g c p b is applied =
    let basis = (g.L.Looks.sight (g.L.Terms.rest c.args.looks.now)).basis in
    let d = g.L.Terms.contents c.args.looks.now in
    c.by_arguments.ensures p b is
    (subst (λ xs. IsApplied d basis.library (map (tree_at d) xs) c.args.constructor b)
    (sym c.deref.ensures.value)
    (subst (λ xs. IsApplied d basis.library xs c.args.constructor b)
    (sym c.in_ok-arguments.ensures.are) applied))
