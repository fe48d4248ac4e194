use Rattle.std.proofs.Common.{rules}
use Rattle.lk_members.specs.Finishing.{blocks_at}
use Rattle.lk_members.proofs.Finished.{gathering_more, gathered}
use Rattle.lk_members.proofs.finish.gather.Goals as goal

pub loop-line-preserved : goal.loop-line-preserved
loop-line-preserved c =
    gathering_more c.args.lines.items c.loop-line.lines.items c.give_back.new.lines.items c.in-Some.line (blocks_at c.loop-line.ends) (blocks_at c.pop-block.new.self) c.pop-block.result c.loop-line.units.items c.push_any.new.items.items
    (search rules) c.pop-block.ensures (search rules) c.loop-line.invariant

pub returns : goal.returns
returns c = gathered c.args.lines.items c.loop-line.lines.items (blocks_at c.loop-line.ends) c.loop-line.units.items (search rules) c.loop-line.invariant
