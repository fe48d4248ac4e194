use Rattle.std.proofs.Common.{arith, ap, ◌+◌}
use Rattle.lk_units.proofs.Counting.{counted_is}
use Rattle.lk_units.proofs.assembler.Assembler.counts.Goals as goal

pub returns-clause-follows : goal.returns-clause-follows
returns-clause-follows c store s h = (
  record s { count = s.count + 1 },
  counted_is s c.args.self.now.count h.count (omega arith),
  record { names = h.names; levels = h.levels; trees = h.trees; rules = h.rules; parts = h.parts; lines = h.lines; budgets = h.budgets; count = ap (λ n. n + 1) h.count },
)
