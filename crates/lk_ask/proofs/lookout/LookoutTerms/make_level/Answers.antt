use Rattle.lk_ask.proofs.MadeBefore.{lookout_stays}
use Rattle.lk_ask.proofs.lookout.LookoutTerms.make_level.Goals as goal

pub invariant_of-self : goal.invariant_of-self
invariant_of-self g c = lookout_stays c.make_level.ensures.keeps c.self.invariant
