use Rattle.std.proofs.Common.{refl}
use Rattle.lk_trim.proofs.Lines.{level_line}
use Rattle.lk_trim.proofs.levels.add_line.Goals as goal

pub returns : goal.returns
returns g c =
    level_line (g.T.Terms.contents c.args.store.now) c.args.writer.now _ c.requires.numbers c.add_number.new.out.items c.add_node.new.out.items c.in_ok-push.ensures.items refl
    c.args.level c.requires.level_in c.level-node.result c.level-node.ensures.level c.len_from_one.result c.len_from_one.ensures c.in_ok-add_number.ensures c.in_ok-add_node.ensures
    refl c.in_ok-note.ensures refl
