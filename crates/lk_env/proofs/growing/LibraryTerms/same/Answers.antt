use Rattle.lk_env.proofs.growing.LibraryTerms.same.Goals as goal

pub returns : goal.returns
returns c = rw (← c.self.view_is) c.same.ensures
