use Rattle.lk_store.proofs.overlay.Overlay.stands_once.Goals as goal

pub returns-clause-levels : goal.returns-clause-levels
returns-clause-levels c = rw (← c.self.view_is) c.self.invariant.1.levels.apart

pub returns-clause-trees : goal.returns-clause-trees
returns-clause-trees c = rw (← c.self.view_is) c.self.invariant.1.trees.apart
