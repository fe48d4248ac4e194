use Rattle.std.proofs.Common.{rules}
use Rattle.lk_members.specs.Finishing.{blocks_at}
use Rattle.lk_members.proofs.Finished.{ending_more}
use Rattle.lk_members.proofs.members.Members.blocks_ended.Goals as goal

pub loop-line-preserved : goal.loop-line-preserved
loop-line-preserved c =
    ending_more c.args.self.now.lines.items c.loop-line.rest.now c.in-Some.more.now c.in-Some.line.now c.loop-line.met c.block_ended.new.met (blocks_at c.loop-line.ends) (blocks_at c.push.new.self) c.in_ok-block.block
    c.requires.faultless (search rules) (search rules) c.in_ok-block.ensures.met c.in_ok-block.ensures.made c.loop-line.invariant
