use Rattle.std.proofs.Common.{◌≡◌, ◌++◌, map, reverse, vec_len}
use Rattle.lk_derive.specs.declared.task.Task.TheVariants as task
use Rattle.lk_derive.proofs.task.push_each.Given as goal

abbrev pub invariant-loop-query : goal.invariant-loop-query
invariant-loop-query l = l.stack.items ++ map task.Open (reverse l.queries.items) ≡ l.initial.stack.items ++ map task.Open (reverse l.fn.queries.items)

abbrev pub decreases-loop-query : goal.decreases-loop-query
decreases-loop-query l = vec_len l.queries
