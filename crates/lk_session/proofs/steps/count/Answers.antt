use Rattle.std.proofs.Common.{rules}
use Rattle.lk_session.proofs.Allowed.{count_allows}
use Rattle.lk_session.proofs.steps.count.Goals as goal

pub fetch_add-requires : goal.fetch_add-requires
fetch_add-requires g c = (search rules, search rules, count_allows c.args.book.now.id c.args.shared.now.table_id.slots c.args.book.now.me g.N.Call.call c.requires.book.1 c.requires.few)
