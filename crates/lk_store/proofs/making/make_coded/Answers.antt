use Rattle.lk_store.specs.Store.{over}
use Rattle.lk_store.proofs.Read.{node_fits}
use Rattle.lk_store.proofs.making.make_coded.Goals as goal

pub tree_key-requires-clause-fits : goal.tree_key-requires-clause-fits
tree_key-requires-clause-fits c = node_fits (over c.args.base.now c.args.own.now) c.requires.store c.args.node c.requires.known
