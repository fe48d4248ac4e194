use Rattle.lk_store.proofs.base_store.BaseStoreTerms.name.Goals as goal

pub returns-clause-known : goal.returns-clause-known
returns-clause-known c = rw (← c.self.view_is) (rw c.self.invariant.1 at c.name_in.ensures.known)

pub returns-clause-name : goal.returns-clause-name
returns-clause-name c = rw (← c.self.view_is) (rw c.self.invariant.1 at c.name_in.ensures.name)
