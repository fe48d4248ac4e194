use Rattle.lk_env.proofs.Bare.{bare_stands, type_stands, no_type_stands}
use Rattle.lk_env.proofs.member.as_partial.Goals as goal

pub returns-then-is_type-clause-member : goal.returns-then-is_type-clause-member
returns-then-is_type-clause-member c = λ d b j s. rw c.in-Types.is (type_stands d b j c.args.entry (rw (← c.is_type.ensures) c.if-is_type.true) s)

pub returns-else-is_type-clause-member : goal.returns-else-is_type-clause-member
returns-else-is_type-clause-member c = λ d b j s. rw c.in-Types.is (no_type_stands d b j c.args.entry (rw (← c.is_type.ensures) c.if-is_type.false) s)

pub returns-in-Members-clause-member : goal.returns-in-Members-clause-member
returns-in-Members-clause-member c = λ d b j s. rw c.in-Members.is (bare_stands d b j c.args.entry c.bare.result c.bare.ensures.stated c.bare.ensures.kind s)
