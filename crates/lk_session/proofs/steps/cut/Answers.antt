use Rattle.std.proofs.Common.{◌<◌, ℕ, ◌∙◌, ap, sym, subst, rules, arith}
use Rattle.atomic_table.specs.Table.{Me}
use Rattle.lk_session.specs.declared.view.View.{View}
use Rattle.lk_session.specs.Seats.{known}
use Rattle.lk_session.proofs.Allowed.{ask_allows, cut_splits}
use Rattle.lk_session.proofs.Cutting.{asked_is}
use Rattle.lk_session.proofs.steps.cut.Goals as goal

pub fetch_add-found-requires : goal.fetch_add-found-requires
fetch_add-found-requires c = (c.requires.seat.of, search rules, ask_allows c.args.seat.now.id c.args.shared.now.table_id.slots c.args.seat.now.me c.requires.seat.pass c.requires.seat.alive c.requires.clear)

pub split_seat-requires : goal.split_seat-requires
split_seat-requires c =
    let knows : Me ℕ View → View = λ m. m.0 in
    let w = knows c.fetch_add-found.new.seat.me in
    let is = asked_is (known c.args.seat.now) w c.fetch_add-found.result c.if-found-ge-MOST_PASSES.false (ap knows c.fetch_add-found.ensures.2) in (
      c.fetch_add-found.ensures.0 ∙ c.requires.seat.of,
      search rules,
      cut_splits c.fetch_add-found.new.seat.id w
          (ap (λ (u : View). u.keeps) is ∙ c.requires.seat.pass)
          (subst (λ (u : View). 0 < u.passes) (sym is) c.requires.seat.alive)
          (subst (λ (u : View). 0 < u.pending) (sym is) (omega arith)),
    )
