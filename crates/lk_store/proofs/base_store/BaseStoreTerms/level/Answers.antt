use Rattle.lk_store.proofs.base_store.BaseStoreTerms.level.Goals as goal

pub returns-clause-known : goal.returns-clause-known
returns-clause-known c = rw (← c.self.view_is) (rw c.self.invariant.1 at c.level_in.ensures.known)

pub returns-clause-level : goal.returns-clause-level
returns-clause-level c = rw (← c.self.view_is) (rw c.self.invariant.1 at c.level_in.ensures.level)
