use Rattle.lk_store.proofs.base_store.BaseStoreTerms.make_levels.Goals as goal

pub make_list_in-requires-clause-known : goal.make_list_in-requires-clause-known
make_list_in-requires-clause-known c = rw (c.self.invariant.1) (rw c.self.view_is c.requires)
