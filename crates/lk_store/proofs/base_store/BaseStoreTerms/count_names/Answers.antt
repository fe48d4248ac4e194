use Rattle.lk_store.proofs.base_store.BaseStoreTerms.count_names.Goals as goal

pub returns-clause-count : goal.returns-clause-count
returns-clause-count c = rw (← c.self.view_is) (rw c.self.invariant.1 at c.count_names_in.ensures.count)

pub returns-clause-apart : goal.returns-clause-apart
returns-clause-apart c = rw (← c.self.view_is) (rw c.self.invariant.1 at c.count_names_in.ensures.apart)
