use Rattle.lk_rows.proofs.Placing.{misses_end}
use Rattle.lk_rows.proofs.slots.find_around.Goals as goal

pub returns-in-End-clause-none : goal.returns-in-End-clause-none
returns-in-End-clause-none g c =
    misses_end g.R.Row.key c.args.rows.now c.args.key.now c.args.tags.now c.args.slots.now c.args.most c.args.tag c.args.b
    c.end_around-end.result c.requires.passed c.end_around-end.ensures.all c.in-End.ensures
