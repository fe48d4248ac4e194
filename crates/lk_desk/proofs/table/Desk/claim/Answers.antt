use Rattle.std.proofs.Common.{sym, ◌∙◌, rules}
use Rattle.lk_desk.proofs.Allowed.{claim_allows}
use Rattle.lk_desk.specs.Seats.{job, view}
use Rattle.lk_desk.proofs.Seating.{ended_same}
use Rattle.lk_desk.proofs.table.Desk.claim.Goals as goal

pub returns-then-seat-clause-none : goal.returns-then-seat-clause-none
returns-then-seat-clause-none c = ended_same (view c.args.seat.now) (sym c.args.seat.now.ended_is ∙ c.if-seat.true)

pub fetch_add-found-requires : goal.fetch_add-found-requires
fetch_add-found-requires c = (
  search rules,
  search rules,
  claim_allows (job c.args.self.now) c.args.seat.now.token.id c.args.self.now.table.shared.table_id.slots c.args.seat.now.token.me c.args.seat.now.alive (sym c.args.seat.now.ended_is ∙ c.if-seat.false),
)
