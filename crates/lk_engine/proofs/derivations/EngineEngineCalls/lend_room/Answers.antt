use Rattle.lk_store.proofs.Made.{Extends-self}
use Rattle.lk_engine.proofs.Lookouts.{made_stands}
use Rattle.lk_engine.proofs.derivations.EngineEngineCalls.lend_room.Goals as goal

pub invariant_of-self : goal.invariant_of-self
invariant_of-self g c = made_stands c.lend_room.ensures.rest
    (rw c.lend_room.ensures.contents (Extends-self _)) c.self.invariant
