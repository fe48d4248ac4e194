use Rattle.std.proofs.Common.{sym, ◌∙◌}
use Rattle.lk_trim.specs.Stored.{file_at}
use Rattle.lk_trim.proofs.Entering.{level_skipped, level_opened}
use Rattle.lk_trim.proofs.levels.enter.Goals as goal

pub returns-then-has_level-clause-entered : goal.returns-then-has_level-clause-entered
returns-then-has_level-clause-entered g c =
    let s = g.T.Terms.contents c.args.store.now in
    level_skipped s c.args.level c.args.stack.now.items (file_at s c.args.writer.now) (sym c.has_level.ensures ∙ c.if-has_level.true)

pub returns-clause-entered : goal.returns-clause-entered
returns-clause-entered g c =
    let s = g.T.Terms.contents c.args.store.now in
    level_opened s c.args.level c.level-node.result c.args.stack.now.items c.open.new.stack.items c.args.writer.now (file_at s c.write_label.new.writer) c.requires.level_in c.level-node.ensures.known c.level-node.ensures.level
    (sym c.has_level.ensures ∙ c.if-has_level.false) c.in_ok-open.ensures c.in_ok-write_label.ensures.file
