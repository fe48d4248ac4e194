use Rattle.std.proofs.Common.{rules}
use Rattle.lk_session.proofs.Allowed.{tell_allows}
use Rattle.lk_session.proofs.steps.tell.Goals as goal

pub load-requires : goal.load-requires
load-requires c = (c.requires.book.0, search rules, tell_allows c.args.book.now.id c.args.shared.now.table_id.slots c.args.book.now.me)
