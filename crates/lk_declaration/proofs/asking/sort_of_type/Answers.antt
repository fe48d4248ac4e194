use Rattle.std.proofs.lemmas.Result.{err_from_is_err_and}
use Rattle.lk_questions.specs.Query.{whnf}
use Rattle.lk_questions.specs.Program.{asked}
use Rattle.lk_questions.specs.Steps.{as_sort}
use Rattle.lk_store.specs.Contents.{level_at, tree_at}
use Rattle.lk_declaration.proofs.Running.{settles_on, halts_first}
use Rattle.lk_declaration.proofs.asking.sort_of_type.Goals as goal

pub returns-clause-outcome : goal.returns-clause-outcome
returns-clause-outcome g c =
    let before = g.A.Terms.contents c.args.asks.now in
    let after = g.A.Terms.contents c.form_of.new.asks in
    settles_on (g.A.Asks.standing c.args.asks.now) (asked (whnf (tree_at before c.args.ty))) (λ S. as_sort S) (g.A.Asks.left c.args.asks.now) (g.A.Asks.left c.form_of.new.asks)
    (tree_at after c.in_ok-form.form) (level_at after) c.sort_in.result c.in_ok-form.ensures.outcome c.sort_in.ensures.sort

pub returns-in_err-form-clause-outcome : goal.returns-in_err-form-clause-outcome
returns-in_err-form-clause-outcome g c =
    let p = err_from_is_err_and c.from_residual.result c.from_residual.ensures.1 in
    rw (p.1, p.2) (halts_first (g.A.Asks.standing c.args.asks.now) (asked (whnf (tree_at (g.A.Terms.contents c.args.asks.now) c.args.ty))) (λ S. as_sort S) (g.A.Asks.left c.args.asks.now) c.in_err-form.field-0.0 c.in_err-form.ensures.outcome)
