use Rattle.lk_questions.specs.Table.{steps as table}
use Rattle.lk_verdict.specs.Verdict.{plain_verdict}
use Rattle.lk_env.specs.Units.{library_of}
use Rattle.leancheck.proofs.InOrder.{plain_held}
use Rattle.leancheck.proofs.tracing.checked_unit.Goals as goal

pub returns-clause-yes : goal.returns-clause-yes
returns-clause-yes g c =
    let l = c.args.library.now in
    let budget = c.budget_of-budget.result in
    c.in_ok-yes.ensures (plain_verdict table (library_of l) c.args.unit budget)
    (plain_held l budget c.args.unit c.check_unit-verdict.result c.requires.number c.check_unit-verdict.ensures.right)
