use Rattle.std.proofs.Common.{rules, arith}
use Rattle.lk_lines.proofs.Leading.{leading_more}
use Rattle.lk_lines.proofs.steps.leading_digits.Goals as goal

pub loop-rest-preserved : goal.loop-rest-preserved
loop-rest-preserved c = leading_more _ _ _ _ (let le = c.in-len1-up.len_at_least in omega arith) c.loop-rest.invariant (search rules) (search rules)
