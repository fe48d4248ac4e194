use Rattle.lk_store.proofs.base_store.BaseStore.stands_once.Goals as goal

pub returns-clause-levels : goal.returns-clause-levels
returns-clause-levels c = rw (← c.self.view_is) c.self.invariant.0.levels.apart

pub returns-clause-trees : goal.returns-clause-trees
returns-clause-trees c = rw (← c.self.view_is) c.self.invariant.0.trees.apart
