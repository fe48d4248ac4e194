use Rattle.std.proofs.Common.{rules}
use Rattle.lk_units.specs.State.{take_item}
use Rattle.lk_units.proofs.Putting.{budget_pushed}
use Rattle.lk_units.proofs.assembler.Assembler.take_budget.Goals as goal

pub returns-in-Ok-clause-follows : goal.returns-in-Ok-clause-follows
unfolding take_item
returns-in-Ok-clause-follows g c store number s h =
    budget_pushed c.args.self.now c.push.new.self store s (g.N.FileNumber.view.value c.args.name) c.in_ok-name.name c.args.steps (search rules) c.in-Ok.ensures.items h
