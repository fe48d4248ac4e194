use Rattle.std.proofs.Common.{subst, ◌∙◌}
use Rattle.std.proofs.lemmas.Result.{err_from_is_err_and}
use Rattle.lk_rulebook.specs.NumberLaws.{laws_of, stated_by}
use Rattle.lk_questions.specs.NumberLaws.{def_given, laws_hold}
use Rattle.lk_declaration.specs.Courses.{Goes, Halts, ComesTo}
use Rattle.lk_declaration.proofs.Running.{gives_on, halts_first}
use Rattle.lk_laws.specs.Operations.{op_at}
use Rattle.lk_laws.proofs.asking.check_laws.Goals as goal

pub returns-in_err-check_stated-clause-outcome : goal.returns-in_err-check_stated-clause-outcome
returns-in_err-check_stated-clause-outcome g c v is =
    let s = g.A.Asks.standing c.args.asks.now in
    let left = g.A.Asks.left c.args.asks.now in
    let op = op_at c.args.op in
    let stop = c.in_err-check_stated.field-0.0 in
    let p = err_from_is_err_and c.from_residual.result c.from_residual.ensures.1 in
    rw (p.1, p.2) (halts_first s (def_given (stated_by op))
    (λ (u : Unit {0}). laws_hold (laws_of op v)) left stop
    (subst (λ o. Halts s (def_given o) left stop) c.stated_by.ensures
    c.in_err-check_stated.ensures.outcome))

pub returns-clause-outcome : goal.returns-clause-outcome
returns-clause-outcome g c v is =
    let s = g.A.Asks.standing c.args.asks.now in
    let after = g.A.Asks.standing c.check_stated.new.asks in
    let left = g.A.Asks.left c.args.asks.now in
    let between = g.A.Asks.left c.check_stated.new.asks in
    let end = g.A.Asks.left c.check_each.new.asks in
    let op = op_at c.args.op in
    let first = c.in_ok-check_stated.ensures in
    gives_on s after first.stays (def_given (stated_by op))
    (λ (u : Unit {0}). laws_hold (laws_of op v)) left between end tt (λ (u : Unit {0}). u)
    c.check_each.result
    (subst (λ o. Goes s (def_given o) left tt between) c.stated_by.ensures first.outcome)
    (subst (λ ls. ComesTo after (laws_hold ls) between (λ (u : Unit {0}). u) end
    c.check_each.result) (c.laws_of.ensures v)
    (c.check_each.ensures.outcome v (first.keeps.trees.same c.args.value c.requires ∙ is)))
