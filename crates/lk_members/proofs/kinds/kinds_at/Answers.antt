use Rattle.std.proofs.Common.{rules}
use Rattle.lk_members.specs.Finishing.{blocks_at}
use Rattle.lk_members.proofs.Alone.{kinds_begin, kinds_more, kinds_done}
use Rattle.lk_members.proofs.kinds.kinds_at.Goals as goal

pub loop-line-init : goal.loop-line-init
loop-line-init c = kinds_begin c.args.lines.now (blocks_at c.args.ends) c.new-kinds.result.items c.new-kinds.ensures.items c.requires

pub loop-line-preserved : goal.loop-line-preserved
loop-line-preserved c =
    kinds_more c.args.lines.now c.in-Some.more.now c.in-Some.line.now c.loop-line.rest.now (blocks_at c.loop-line.ends) (blocks_at c.pop-block.new.self) c.pop-block.result c.loop-line.kinds.items c.push_kind.new.kinds.items
    c.in-Some.ensures.cases.0 c.pop-block.ensures (search rules) c.loop-line.invariant

pub loop-line-preserved-in_ok-push_kind : goal.loop-line-preserved-in_ok-push_kind
loop-line-preserved-in_ok-push_kind c =
    kinds_more c.args.lines.now c.in-Some.more.now c.in-Some.line.now c.loop-line.rest.now (blocks_at c.loop-line.ends) (blocks_at c.pop-block.new.self) c.pop-block.result c.loop-line.kinds.items c.push_kind.new.kinds.items
    c.in-Some.ensures.cases.0 c.pop-block.ensures (search rules) c.loop-line.invariant
