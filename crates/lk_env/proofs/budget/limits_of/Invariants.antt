use Rattle.lk_store.specs.Store.{contents_of}
use Rattle.lk_env.proofs.Limits.{AreLimitsUpTo}
use Rattle.lk_env.proofs.budget.limits_of.Given as goal

abbrev pub invariant-loop-budget : goal.invariant-loop-budget
invariant-loop-budget l = AreLimitsUpTo (contents_of l.base) l.units l.budgets l.budget-index l.limits.items
