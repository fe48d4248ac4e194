use Rattle.std.proofs.Common.{refl}
use Rattle.lk_trim.proofs.Lines.{tree_line}
use Rattle.lk_trim.proofs.trees.add_line.Goals as goal

pub returns : goal.returns
returns g c =
    tree_line (g.T.Terms.contents c.args.store.now) c.args.writer.now _ c.requires.numbers c.add_number.new.out.items c.add_node.new.out.items c.in_ok-push.ensures.items refl
    c.args.tree c.requires.tree_in c.view-node.result c.view-node.ensures.tree c.len.result c.len.ensures c.in_ok-add_number.ensures c.in_ok-add_node.ensures
    refl refl c.in_ok-note.ensures
