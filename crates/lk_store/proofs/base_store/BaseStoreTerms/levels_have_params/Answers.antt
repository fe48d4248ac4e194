use Rattle.lk_store.proofs.base_store.BaseStoreTerms.levels_have_params.Goals as goal

pub list_params_in-requires-clause-known : goal.list_params_in-requires-clause-known
list_params_in-requires-clause-known c = rw (c.self.invariant.1) (rw c.self.view_is c.requires)

pub returns : goal.returns
returns c = rw (← c.self.view_is) (rw c.self.invariant.1 at c.list_params_in.ensures)
