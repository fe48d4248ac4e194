use Rattle.lk_readback.proofs.Picked.{read_statable, read_budgets}
use Rattle.lk_readback.proofs.read_units_are_statable.Goals as goal

pub returns : goal.returns
returns c = record { units = read_statable; budgets = read_budgets }
