use Rattle.lk_scan.proofs.seen.Seen.add.Goals as goal

pub returns : goal.returns
returns c = λ q. c.in-Ok.ensures.updates.0 q
