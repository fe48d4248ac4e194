use Rattle.lk_engine.proofs.engine.EngineTerms.same.Goals as goal

pub returns : goal.returns
returns g c = rw (← c.self.view_is) c.same.ensures
