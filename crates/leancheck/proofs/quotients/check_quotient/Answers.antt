use Rattle.std.proofs.Common.{map, refl, sym, subst, ◌∙◌}
use Rattle.std.proofs.lemmas.Result.{err_from_is_err_and}
use Rattle.lk_rulebook.specs.Units.{as_axiom}
use Rattle.lk_questions.specs.QuotientUnits.{quot_steps}
use Rattle.lk_questions.specs.Declarations.{checked}
use Rattle.lk_store.specs.Contents.{name_at, tree_at}
use Rattle.lk_declaration.specs.Asked.{axiom_steps}
use Rattle.lk_declaration.specs.Courses.{ComesTo, Halts}
use Rattle.lk_declaration.proofs.Running.{gives_on, halts_first}
use Rattle.lk_laws.proofs.Runs.{goes, halts}
use Rattle.leancheck.proofs.QuotientRuns.{quotient_is}
use Rattle.leancheck.proofs.quotients.check_quotient.Goals as goal

pub returns-in_err-quotient-clause-outcome : goal.returns-in_err-quotient-clause-outcome
returns-in_err-quotient-clause-outcome g c d name levels type body =
    let k = g.Q.Terms.contents c.args.asks.now in
    let s = g.Q.Asks.standing c.args.asks.now in
    let left = g.Q.Asks.left c.args.asks.now in
    let stop = c.in_err-quotient.field-0.0 in
    let x = name_at k c.args.name in
    let us = map (name_at k) c.args.levels.now in
    let T = tree_at k c.args.ty in
    let p = quot_steps x us T in
    let e = err_from_is_err_and c.from_residual.result c.from_residual.ensures.1 in
    rw (e.1, e.2) (subst (λ q. Halts s q left stop)
    (sym (quotient_is d x us T name levels type body)) (halts_first s p (λ (u : Unit {0}). axiom_steps d.type) left stop
    (halts s p left stop c.in_err-quotient.ensures.outcome)))

pub returns-clause-outcome : goal.returns-clause-outcome
returns-clause-outcome g c d name levels type body =
    let k = g.Q.Terms.contents c.args.asks.now in
    let s = g.Q.Asks.standing c.args.asks.now in
    let after = g.Q.Asks.standing c.quotient.new.self in
    let left = g.Q.Asks.left c.args.asks.now in
    let between = g.Q.Asks.left c.quotient.new.self in
    let end = g.Q.Asks.left c.check_axiom.new.asks in
    let x = name_at k c.args.name in
    let us = map (name_at k) c.args.levels.now in
    let T = tree_at k c.args.ty in
    let p = quot_steps x us T in
    let called = c.in_ok-quotient.ensures in
    subst (λ q. ComesTo s q left (λ (u : Unit {0}). checked) end c.check_axiom.result)
    (sym (quotient_is d x us T name levels type body))
    (gives_on s after called.stays p (λ (u : Unit {0}). axiom_steps d.type) left between end tt
    (λ (u : Unit {0}). checked) c.check_axiom.result
    (goes s p left c.in_ok-quotient.field-0 between called.left called.outcome)
    (c.check_axiom.ensures.outcome (record d { body = as_axiom })
    (type ∙ sym (called.keeps.trees.same c.args.ty c.requires.ty_in)) refl))
