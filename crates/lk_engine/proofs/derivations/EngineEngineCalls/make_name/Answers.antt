use Rattle.lk_engine.proofs.Lookouts.{made_stands}
use Rattle.lk_engine.proofs.derivations.EngineEngineCalls.make_name.Goals as goal

pub invariant_of-self : goal.invariant_of-self
invariant_of-self g c = made_stands c.make_name.ensures.rest c.make_name.ensures.keeps
    c.self.invariant
