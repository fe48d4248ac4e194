use Rattle.lk_store.specs.Store.{contents_of}
use Rattle.lk_env.proofs.Limits.{line_below, next_line}
use Rattle.lk_env.proofs.budget.limits_of.Goals as goal

pub note-requires : goal.note-requires
note-requires c =
    line_below (contents_of c.args.base.now) c.args.units.now c.args.cells.now c.args.budgets.now
    c.loop-budget.budget-index (record { name = 0; steps = 0 }) c.requires.index c.requires.known
    c.loop-budget-test.true c.loop-budget.limits.items c.loop-budget.invariant.one_each

pub loop-budget-preserved : goal.loop-budget-preserved
loop-budget-preserved c =
    next_line (contents_of c.args.base.now) c.args.units.now c.args.cells.now c.args.budgets.now
    c.loop-budget.budget-index (record { name = 0; steps = 0 }) c.requires.index c.requires.known
    c.loop-budget-test.true c.loop-budget.limits.items c.note.new.limits.items
    c.note.ensures.one_each c.note.ensures.noted c.loop-budget.invariant
