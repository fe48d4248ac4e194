use Rattle.std.proofs.Common.{sym, ◌∙◌}
use Rattle.lk_traced.proofs.Refusing.{no_parts, some_parts}
use Rattle.lk_traced.proofs.misplaced.misplaced_parts.Goals as goal

pub returns-then-is_empty : goal.returns-then-is_empty
returns-then-is_empty c = no_parts c.args.premises.now (sym c.is_empty.ensures ∙ c.if-is_empty.true)

pub returns-else-is_empty : goal.returns-else-is_empty
returns-else-is_empty c = some_parts c.args.premises.now (sym c.is_empty.ensures ∙ c.if-is_empty.false)
