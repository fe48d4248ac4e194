use Rattle.lk_units.proofs.Lines.{fails_then}
use Rattle.lk_traced.proofs.derived.plain_rule.Goals as goal

pub returns-in-Err-clause-made : goal.returns-in-Err-clause-made
returns-in-Err-clause-made c = λ k l. rw c.in-Typing.is (fails_then c.in-Err.error _ _ (c.in-Err.ensures.made k))

pub returns-in-Err-conversion_rule-clause-made : goal.returns-in-Err-conversion_rule-clause-made
returns-in-Err-conversion_rule-clause-made c = λ k l. rw c.in-Conversion.is (fails_then c.in-Err-conversion_rule.error _ _ (c.in-Err-conversion_rule.ensures.made k))
