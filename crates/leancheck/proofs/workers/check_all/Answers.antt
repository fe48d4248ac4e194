use Rattle.leancheck.proofs.InOrder.{in_order}
use Rattle.leancheck.proofs.workers.check_all.Goals as goal

pub returns : goal.returns
returns g c =
    let e = c.in_ok-report.ensures in
    let report = c.in_ok-report.report in
    in_order c.args.library.now c.args.options.steps report.answers.items report.verdicts.items
    e.right e.count e.each
