use Rattle.lk_env.proofs.member.member_entry.Goals as goal

pub returns-in-Block-clause-member : goal.returns-in-Block-clause-member
returns-in-Block-clause-member c = λ d. rw c.in-Block.is (c.block_entry.ensures.member d)
