use Rattle.lk_store.proofs.base_store.BaseStore.find_name.Goals as goal

pub find_name_in-requires-clause-known : goal.find_name_in-requires-clause-known
find_name_in-requires-clause-known c = rw (c.self.invariant.1) (rw c.self.view_is c.requires)

pub returns-clause-absent : goal.returns-clause-absent
returns-clause-absent c = rw (← c.self.view_is) (rw c.self.invariant.1 at c.find_name_in.ensures.absent)
