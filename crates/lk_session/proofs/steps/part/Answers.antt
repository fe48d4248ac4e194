use Rattle.std.proofs.Common.{rules}
use Rattle.lk_session.proofs.Allowed.{part_splits}
use Rattle.lk_session.proofs.steps.part.Goals as goal

pub split_seat-requires : goal.split_seat-requires
split_seat-requires c = (c.requires.book.0, search rules, part_splits c.args.book.now.id c.args.book.now.me.0 c.requires.book.1 c.requires.alive)
