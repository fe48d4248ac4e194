use Rattle.std.proofs.Common.{refl, sym}
use Rattle.std.proofs.lemmas.Result.{err_from_is_err_and}
use Rattle.lk_tree.specs.declared.rule.Rule.TheVariants.{NatLaw}
use Rattle.lk_questions.specs.Query.{same}
use Rattle.lk_questions.specs.Program.{done, asked}
use Rattle.lk_questions.specs.Steps.{given}
use Rattle.lk_store.specs.Contents.{tree_at}
use Rattle.lk_ask.specs.declared.stop.Stop.TheVariants.{No}
use Rattle.lk_declaration.proofs.Running.{goes_on, halts_later, halts_first, goes_done}
use Rattle.lk_laws.proofs.asking.check_same.Goals as goal

pub returns-in_err-are_same-clause-outcome : goal.returns-in_err-are_same-clause-outcome
returns-in_err-are_same-clause-outcome g c a b left right =
    let k = g.A.Terms.contents c.args.asks.now in
    let found = asked (same (tree_at k c.args.left) (tree_at k c.args.right)) in
    let p = err_from_is_err_and c.from_residual.result c.from_residual.ensures.1 in
    rw (p.1, p.2) (rw (sym left) (rw (sym right) (halts_first (g.A.Asks.standing c.args.asks.now) found
    (λ equal. given equal NatLaw (done tt)) (g.A.Asks.left c.args.asks.now)
    c.in_err-are_same.field-0.0 c.in_err-are_same.ensures.outcome)))

pub returns-then-branch-clause-outcome : goal.returns-then-branch-clause-outcome
returns-then-branch-clause-outcome g c a b left right =
    let k = g.A.Terms.contents c.args.asks.now in
    let found = asked (same (tree_at k c.args.left) (tree_at k c.args.right)) in
    let s = g.A.Asks.standing c.args.asks.now in
    let end = g.A.Asks.left c.are_same.new.asks in
    rw (sym left) (rw (sym right) (goes_on s s refl found (λ equal. given equal NatLaw (done tt))
    (g.A.Asks.left c.args.asks.now) end end c.in_ok-are_same.field-0 tt
    c.in_ok-are_same.ensures.outcome (rw c.if-branch.true (goes_done s tt tt end refl))))

pub returns-else-branch-clause-outcome : goal.returns-else-branch-clause-outcome
returns-else-branch-clause-outcome g c a b left right =
    let k = g.A.Terms.contents c.args.asks.now in
    let found = asked (same (tree_at k c.args.left) (tree_at k c.args.right)) in
    let s = g.A.Asks.standing c.args.asks.now in
    let end = g.A.Asks.left c.are_same.new.asks in
    rw (sym left) (rw (sym right) (halts_later s s refl found (λ equal. given equal NatLaw (done tt))
    (g.A.Asks.left c.args.asks.now) end c.in_ok-are_same.field-0 (No NatLaw)
    c.in_ok-are_same.ensures.outcome (rw c.if-branch.false (record { stops = λ k. refl }))))
