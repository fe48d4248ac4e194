use Rattle.std.proofs.Common.{◌∷◌, sym, subst}
use Rattle.lk_rulebook.specs.Claims.{equals}
use Rattle.lk_store.specs.Contents.{Contents, tree_at}
use Rattle.lk_premises.specs.Claims.{claims_at}
use Rattle.lk_step.specs.declared.step.Row.{Row}
use Rattle.lk_step.specs.Pairs.{AreAsked}
use Rattle.lk_step.specs.Parts.{States}
use Rattle.lk_derive_lazy.proofs.Stating.{applied_part}
use Rattle.lk_derive_lazy.proofs.Spines.{arguments_part}
use Rattle.lk_derive_lazy.proofs.arguments.arguments_row.Goals as goal

pub returns : goal.returns
returns g c = λ w n two h.
    let d : Contents = g.L.Terms.contents c.args.looks.now in
    let a = tree_at d c.args.a in
    let b = tree_at d c.args.b in
    let f = tree_at d c.args.found.now.left in
    let k = tree_at d c.args.found.now.right in
    let p = c.requires.alike.paired in
    let ps = c.in_ok-asked.asked.premises.items in
    let row : Row = record { asks = c.in_ok-asked.asked.asks; steps = c.new.result } in
    let asked : AreAsked d c.args.found.now.pairs.items c.in_ok-asked.asked.asks.items ps = subst (λ qs. AreAsked d qs c.in_ok-asked.asked.asks.items ps) c.deref.ensures.value c.in_ok-asked.ensures in
    let whole : States w d c.add_heads.new.row c.add_applied.new.row (equals f k ∷ claims_at d ps) (equals a b) = subst (λ qs. States w d c.add_heads.new.row c.add_applied.new.row (equals f k ∷ claims_at d qs) (equals a b)) c.deref-2.ensures.value (c.in_ok-add_applied.ensures w two) in
    applied_part w d row c.add_heads.new.row c.add_applied.new.row a b f k (claims_at d ps) n
    (arguments_part w d a b row c.args.found.now.pairs.items n two.left two.right (sym p.left_args) (sym p.right_args) ps asked c.new.ensures.items h)
    (c.in_ok-add_heads.ensures w c.requires.alike.heads) whole
