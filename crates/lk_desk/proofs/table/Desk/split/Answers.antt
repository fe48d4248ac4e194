use Rattle.std.proofs.Common.{ℕ, List, refl, ◌∙◌, ap, rules, arith}
use Rattle.atomic_table.specs.Table.{Me}
use Rattle.lk_desk.specs.declared.view.View.{View}
use Rattle.lk_desk.specs.Rule.{Slot, first_view}
use Rattle.lk_desk.proofs.Allowed.{ask_allows, cut_splits}
use Rattle.lk_desk.specs.Seats.{job, view}
use Rattle.lk_desk.proofs.Seating.{noted_none, noted_some, asked_coming, asked_cut, asked_new, asked_seats}
use Rattle.lk_desk.proofs.table.Desk.split.Goals as goal

pub returns-then-seat-clause-none : goal.returns-then-seat-clause-none
returns-then-seat-clause-none c = (noted_some c.args.seat.now.refused (view c.args.seat.now).refusals c.if-seat.true c.args.seat.now.refused_is, refl)

pub fetch_add-found-requires : goal.fetch_add-found-requires
fetch_add-found-requires c = (
  search rules,
  search rules,
  ask_allows (job c.args.self.now) c.args.seat.now.token.id c.args.self.now.table.shared.table_id.slots c.args.seat.now.token.me c.args.seat.now.alive
      (noted_none c.args.seat.now.refused (view c.args.seat.now).refusals c.if-seat.false c.args.seat.now.refused_is),
)

pub split_seat-token-requires : goal.split_seat-token-requires
split_seat-token-requires c =
    let knows : Me Slot View → View = λ m. m.0 in
    let e = ap knows c.fetch_add-found.ensures.2 in
    let lt = c.if-found-ge-MOST_SEATS.false in (
      search rules,
      search rules,
      cut_splits (job c.args.self.now) c.fetch_add-found.new.seat.id (knows c.fetch_add-found.new.seat.me)
          (let s = asked_seats (view c.args.seat.now) (knows c.fetch_add-found.new.seat.me) c.fetch_add-found.result lt e in let a = c.args.seat.now.alive in omega arith)
          (asked_coming (view c.args.seat.now) (knows c.fetch_add-found.new.seat.me) c.fetch_add-found.result lt e),
    )

pub returns-clause-some : goal.returns-clause-some
returns-clause-some c =
    let knows : Me Slot View → View = λ m. m.0 in
    let holds : Me Slot View → List (ℕ × Slot) = λ m. m.1 in
    let v = view c.args.seat.now in
    let w = knows c.fetch_add-found.new.seat.me in
    let e = ap knows c.fetch_add-found.ensures.2 in
    let lt = c.if-found-ge-MOST_SEATS.false in
    let new = ap knows c.split_seat-token.ensures.4 ∙ (asked_new v w c.fetch_add-found.result lt e ∙ ap first_view c.requires.1) in (
      (
        (
          c.split_seat-token.ensures.3 ∙ (c.fetch_add-found.ensures.0 ∙ c.requires.0),
          ap (λ (u : View). u.job) new,
          ap holds c.split_seat-token.ensures.4,
        ),
        new,
      ),
      ap knows c.split_seat-token.ensures.2 ∙ asked_cut v w c.fetch_add-found.result lt e,
      noted_none c.args.seat.now.refused v.refusals c.if-seat.false c.args.seat.now.refused_is,
    )
