use Rattle.lk_eta.proofs.ways.of_turned.Goals as goal

pub returns-in-Goes-clause-known : goal.returns-in-Goes-clause-known
returns-in-Goes-clause-known c n h = c.of_next.ensures.known n (rw c.in-Goes.is at h)

pub returns-in-Behind-clause-known : goal.returns-in-Behind-clause-known
returns-in-Behind-clause-known c n h = let k = rw c.in-Behind.is at h in c.begin.ensures.known n k.1 k.0
