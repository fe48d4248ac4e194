use Rattle.std.proofs.Common.{map}
use Rattle.lk_env.specs.Units.{recursor_at, block_at}
use Rattle.lk_env.proofs.Bare.{no_entry}
use Rattle.lk_env.proofs.member.partial_entry.Goals as goal

pub returns-in-None-clause-member : goal.returns-in-None-clause-member
returns-in-None-clause-member c = λ d.
    let b = c.in-Block.block in
    rw c.in-Block.is (no_entry (block_at d b) (map (recursor_at d) b.recursors.value.items) c.args.partial c.args.member (c.in-None.ensures.member d))
