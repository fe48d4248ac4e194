use Rattle.std.proofs.Common.{rules}
use Rattle.lk_desk.proofs.Allowed.{count_allows}
use Rattle.lk_desk.specs.Seats.{job}
use Rattle.lk_desk.proofs.table.Desk.seats_made.Goals as goal

pub load-requires : goal.load-requires
load-requires c = (search rules, search rules, count_allows (job c.args.self.now) c.args.seat.now.token.id c.args.self.now.table.shared.table_id.slots c.args.seat.now.token.me c.args.seat.now.alive)
