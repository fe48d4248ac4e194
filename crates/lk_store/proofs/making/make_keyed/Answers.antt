use Rattle.lk_store.specs.Store.{over}
use Rattle.lk_store.proofs.Above.{tree_above}
use Rattle.lk_store.proofs.Made.{found_tree}
use Rattle.lk_store.proofs.making.make_keyed.Goals as goal

pub returns-in-Some-clause-ok : goal.returns-in-Some-clause-ok
returns-in-Some-clause-ok c =
    let r = over c.args.base.now c.args.own.now in
    found_tree r c.requires.store c.in-Some.e c.args.key c.args.node c.in-Some.ensures.known c.in-Some.ensures.present c.requires.key

pub find-requires-clause-base : goal.find-requires-clause-base
find-requires-clause-base c =
    tree_above c.args.base.now c.requires.base c.args.key c.has_tree_parts-in_base.result c.has_tree_parts-in_base.ensures
