use Rattle.std.proofs.Common.{◌∙◌, rules}
use Rattle.lk_session.proofs.Allowed.{meet_joins, look_allows}
use Rattle.lk_session.proofs.steps.meet.Goals as goal

pub join_seat-requires : goal.join_seat-requires
join_seat-requires c = (c.requires.book.0, c.requires.caller.of, c.requires.caller.hand, search rules, meet_joins c.args.book.now.id c.args.caller.id c.args.book.now.me.0 c.args.caller.me.0 c.requires.book.1 c.requires.caller.pass)

pub load-calls-requires : goal.load-calls-requires
load-calls-requires c = (c.join_seat.ensures.0 ∙ c.requires.book.0, search rules, look_allows c.join_seat.new.seat.id c.args.shared.now.table_id.slots c.join_seat.new.seat.me)
