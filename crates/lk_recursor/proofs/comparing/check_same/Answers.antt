use Rattle.std.proofs.lemmas.Result.{err_from_is_err_and}
use Rattle.lk_questions.specs.Program.{done, asked}
use Rattle.lk_questions.specs.Query.{same}
use Rattle.lk_questions.specs.Declarations.{checked}
use Rattle.lk_questions.specs.Steps.{given}
use Rattle.lk_tree.specs.declared.rule.Rule.TheVariants.{RecursorDiffers}
use Rattle.lk_store.specs.Contents.{tree_at}
use Rattle.lk_declaration.proofs.Running.{halts_first}
use Rattle.lk_recursor.proofs.Leading.{same_goes, same_differs}
use Rattle.lk_recursor.proofs.comparing.check_same.Goals as goal

pub returns-then-branch-clause-outcome : goal.returns-then-branch-clause-outcome
returns-then-branch-clause-outcome g c =
    let before = g.A.Terms.contents c.args.asks.now in
    same_goes (g.A.Asks.standing c.args.asks.now) (tree_at before c.args.stated) (tree_at before c.args.made) (g.A.Asks.left c.args.asks.now) (g.A.Asks.left c.are_same.new.asks)
    c.in_ok-are_same.field-0 c.in_ok-are_same.ensures.outcome c.if-branch.true

pub returns-else-branch-clause-outcome : goal.returns-else-branch-clause-outcome
returns-else-branch-clause-outcome g c =
    let before = g.A.Terms.contents c.args.asks.now in
    same_differs (g.A.Asks.standing c.args.asks.now) (tree_at before c.args.stated) (tree_at before c.args.made) (g.A.Asks.left c.args.asks.now) (g.A.Asks.left c.are_same.new.asks)
    c.in_ok-are_same.field-0 c.in_ok-are_same.ensures.outcome c.if-branch.false

pub returns-in_err-are_same-clause-outcome : goal.returns-in_err-are_same-clause-outcome
returns-in_err-are_same-clause-outcome g c =
    let before = g.A.Terms.contents c.args.asks.now in
    let p = err_from_is_err_and c.from_residual.result c.from_residual.ensures.1 in
    rw (p.1, p.2) (halts_first (g.A.Asks.standing c.args.asks.now) (asked (same (tree_at before c.args.stated) (tree_at before c.args.made))) (λ equal. given equal RecursorDiffers (done checked))
    (g.A.Asks.left c.args.asks.now) c.in_err-are_same.field-0.0 c.in_err-are_same.ensures.outcome)
