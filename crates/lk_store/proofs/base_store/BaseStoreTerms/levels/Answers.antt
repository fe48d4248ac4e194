use Rattle.lk_store.proofs.base_store.BaseStoreTerms.levels.Goals as goal

pub list_in-requires-clause-known : goal.list_in-requires-clause-known
list_in-requires-clause-known c = rw (c.self.invariant.1) (rw c.self.view_is c.requires)

pub returns-clause-known : goal.returns-clause-known
returns-clause-known c = rw (← c.self.view_is) (rw c.self.invariant.1 at c.list_in.ensures.known)

pub returns-clause-list : goal.returns-clause-list
returns-clause-list c = rw (← c.self.view_is) (rw c.self.invariant.1 at c.list_in.ensures.list)
