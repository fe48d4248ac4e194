use Rattle.std.proofs.Common.{subst}
use Rattle.std.proofs.lemmas.Result.{err_from_is_err_and}
use Rattle.lk_questions.specs.Query.{infer}
use Rattle.lk_questions.specs.Program.{asked}
use Rattle.lk_questions.specs.Declarations.{checked}
use Rattle.lk_store.specs.Contents.{tree_at}
use Rattle.lk_declaration.specs.Asked.{agreeing_steps}
use Rattle.lk_declaration.specs.Courses.{ComesTo}
use Rattle.lk_declaration.proofs.Running.{gives_on, halts_first}
use Rattle.lk_declaration.proofs.declaration.check_value.Goals as goal

pub returns-in_err-found-clause-outcome : goal.returns-in_err-found-clause-outcome
returns-in_err-found-clause-outcome g c =
    let before = g.A.Terms.contents c.args.asks.now in
    let p = err_from_is_err_and c.from_residual.result c.from_residual.ensures.1 in
    rw (p.1, p.2) (halts_first (g.A.Asks.standing c.args.asks.now) (asked (infer (tree_at before c.args.value))) (λ V. agreeing_steps (tree_at before c.args.ty) V) (g.A.Asks.left c.args.asks.now) c.in_err-found.field-0.0 c.in_err-found.ensures.outcome)

pub returns-clause-outcome : goal.returns-clause-outcome
returns-clause-outcome g c =
    let before = g.A.Terms.contents c.args.asks.now in
    let between = g.A.Terms.contents c.type_of.new.asks in
    let found = tree_at between c.in_ok-found.found in
    let left = g.A.Asks.left c.type_of.new.asks in
    let end = g.A.Asks.left c.check_agrees.new.asks in
    gives_on (g.A.Asks.standing c.args.asks.now) (g.A.Asks.standing c.type_of.new.asks) c.in_ok-found.ensures.stays
    (asked (infer (tree_at before c.args.value))) (λ V. agreeing_steps (tree_at before c.args.ty) V) (g.A.Asks.left c.args.asks.now) left end found (λ (u : Unit {0}). checked) c.check_agrees.result c.in_ok-found.ensures.outcome
    (subst (λ T. ComesTo (g.A.Asks.standing c.type_of.new.asks) (agreeing_steps T found) left (λ (u : Unit {0}). checked) end c.check_agrees.result)
    (c.in_ok-found.ensures.keeps.trees.same c.args.ty c.requires.ty_in) c.check_agrees.ensures.outcome)
