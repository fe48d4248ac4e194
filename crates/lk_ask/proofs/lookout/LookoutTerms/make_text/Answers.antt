use Rattle.lk_ask.proofs.MadeBefore.{lookout_stays}
use Rattle.lk_ask.proofs.lookout.LookoutTerms.make_text.Goals as goal

pub invariant_of-self : goal.invariant_of-self
invariant_of-self g c = lookout_stays c.make_text.ensures.keeps c.self.invariant
