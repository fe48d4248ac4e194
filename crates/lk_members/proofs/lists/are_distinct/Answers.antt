use Rattle.std.proofs.Common.{rules}
use Rattle.lk_members.proofs.Looking.{looked_twice, looked_more}
use Rattle.lk_members.proofs.lists.are_distinct.Goals as goal

pub returns-then-contains : goal.returns-then-contains
returns-then-contains c = looked_twice c.loop-name.seen c.loop-name.rest.now c.in-Some.more.now c.args.names.now c.in-Some.name.now c.in-Some.ensures.cases.0 c.loop-name.invariant (search rules)

pub loop-name-preserved : goal.loop-name-preserved
loop-name-preserved c = looked_more c.loop-name.seen c.insert.new.self c.loop-name.rest.now c.in-Some.more.now c.args.names.now c.in-Some.name.now c.in-Some.ensures.cases.0 c.loop-name.invariant (search rules) c.in-Ok.ensures.updates.0
