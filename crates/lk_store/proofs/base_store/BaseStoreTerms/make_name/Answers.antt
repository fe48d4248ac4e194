use Rattle.lk_store.proofs.base_store.BaseStoreTerms.make_name.Goals as goal

pub make_name_in-requires-clause-known : goal.make_name_in-requires-clause-known
make_name_in-requires-clause-known c = rw (c.self.invariant.1) (rw c.self.view_is c.requires)
