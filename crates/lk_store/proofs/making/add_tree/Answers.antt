use Rattle.lk_store.specs.Store.{over}
use Rattle.lk_store.proofs.Made.{Recoded-self, make_new}
use Rattle.lk_store.proofs.making.add_tree.Goals as goal

pub returns-clause-grown : goal.returns-clause-grown
returns-clause-grown c =
    let r = over c.args.base.now c.args.own.now in
    let e = c.in_ok-e.ensures in
    let y = c.in_ok-row.ensures in
    let ok = rw (c.new.ensures) at e.ok in
    (make_new c.args.base.now c.args.own.now c.args.own.now c.tree_row_for.new.own c.in_ok-row.row c.add.new.own c.in_ok-e.e c.args.key c.args.node
    (Recoded-self r c.requires.store) y.recoded y.same_trees ok e.number e.few y.ok c.requires.known c.requires.absent).0

pub returns-clause-ok : goal.returns-clause-ok
returns-clause-ok c =
    let r = over c.args.base.now c.args.own.now in
    let e = c.in_ok-e.ensures in
    let y = c.in_ok-row.ensures in
    let ok = rw (c.new.ensures) at e.ok in
    (make_new c.args.base.now c.args.own.now c.args.own.now c.tree_row_for.new.own c.in_ok-row.row c.add.new.own c.in_ok-e.e c.args.key c.args.node
    (Recoded-self r c.requires.store) y.recoded y.same_trees ok e.number e.few y.ok c.requires.known c.requires.absent).1
