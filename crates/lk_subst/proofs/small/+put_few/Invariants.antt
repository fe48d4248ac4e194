use Rattle.lk_subst.proofs.small.+put_few.Given as goal

abbrev pub decreases-put_few : goal.decreases-put_few
decreases-put_few g l = l.count
