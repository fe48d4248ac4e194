use Rattle.std.proofs.Common.{sym, ◌∙◌}
use Rattle.lk_trim.specs.Stored.{file_at}
use Rattle.lk_trim.proofs.Numbered.{tree_has}
use Rattle.lk_trim.proofs.Entering.{tree_skipped, tree_opened}
use Rattle.lk_trim.proofs.trees.enter.Goals as goal

pub returns-then-has-clause-entered : goal.returns-then-has-clause-entered
returns-then-has-clause-entered g c =
    let s = g.T.Terms.contents c.args.store.now in
    tree_skipped s c.args.tree c.args.stack.now.items (file_at s c.args.writer.now)
    (sym (tree_has s c.args.writer.now.numbers c.requires.numbers c.args.tree c.requires.tree_in) ∙ sym c.has.ensures ∙ c.if-has.true)

pub returns-clause-entered : goal.returns-clause-entered
returns-clause-entered g c =
    let s = g.T.Terms.contents c.args.store.now in
    tree_opened s c.args.tree c.view-node.result c.args.stack.now.items c.open.new.stack.items (file_at s c.args.writer.now) (file_at s c.write_label.new.writer) c.requires.tree_in c.view-node.ensures.known c.view-node.ensures.tree
    (sym (tree_has s c.args.writer.now.numbers c.requires.numbers c.args.tree c.requires.tree_in) ∙ sym c.has.ensures ∙ c.if-has.false) c.in_ok-open.ensures c.in_ok-write_label.ensures.file
