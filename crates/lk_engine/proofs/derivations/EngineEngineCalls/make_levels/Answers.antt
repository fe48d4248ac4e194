use Rattle.lk_engine.proofs.Lookouts.{made_stands}
use Rattle.lk_engine.proofs.derivations.EngineEngineCalls.make_levels.Goals as goal

pub invariant_of-self : goal.invariant_of-self
invariant_of-self g c = made_stands c.make_levels.ensures.rest c.make_levels.ensures.keeps
    c.self.invariant
