use Rattle.std.proofs.lemmas.Result.{err_from_is_err_and}
use Rattle.lk_questions.specs.Query.{infer}
use Rattle.lk_questions.specs.Program.{asked}
use Rattle.lk_store.specs.Contents.{level_at, tree_at}
use Rattle.lk_declaration.specs.Asked.{sort_form}
use Rattle.lk_declaration.proofs.Running.{gives_on, halts_first}
use Rattle.lk_declaration.proofs.asking.sort_of.Goals as goal

pub returns-clause-outcome : goal.returns-clause-outcome
returns-clause-outcome g c =
    let before = g.A.Terms.contents c.args.asks.now in
    let between = g.A.Terms.contents c.type_of.new.asks in
    gives_on (g.A.Asks.standing c.args.asks.now) (g.A.Asks.standing c.type_of.new.asks) c.in_ok-ty.ensures.stays
    (asked (infer (tree_at before c.args.e))) (λ T. sort_form T) (g.A.Asks.left c.args.asks.now) (g.A.Asks.left c.type_of.new.asks) (g.A.Asks.left c.sort_of_type.new.asks)
    (tree_at between c.in_ok-ty.ty) (level_at (g.A.Terms.contents c.sort_of_type.new.asks)) c.sort_of_type.result c.in_ok-ty.ensures.outcome c.sort_of_type.ensures.outcome

pub returns-in_err-ty-clause-outcome : goal.returns-in_err-ty-clause-outcome
returns-in_err-ty-clause-outcome g c =
    let p = err_from_is_err_and c.from_residual.result c.from_residual.ensures.1 in
    rw (p.1, p.2) (halts_first (g.A.Asks.standing c.args.asks.now) (asked (infer (tree_at (g.A.Terms.contents c.args.asks.now) c.args.e))) (λ T. sort_form T) (g.A.Asks.left c.args.asks.now) c.in_err-ty.field-0.0 c.in_err-ty.ensures.outcome)
