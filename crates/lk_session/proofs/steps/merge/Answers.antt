use Rattle.std.proofs.Common.{◌∙◌, ◌≤◌, ℕ, sym, subst, arith, rules}
use Rattle.atomic_table.specs.Table.{Me}
use Rattle.lk_session.specs.declared.view.View.{View}
use Rattle.lk_session.specs.Rule.{times}
use Rattle.lk_session.proofs.Cutting.{once_one}
use Rattle.lk_session.proofs.Allowed.{join_joins, look_allows}
use Rattle.lk_session.proofs.steps.merge.Goals as goal

pub join_seat-requires : goal.join_seat-requires
join_seat-requires c = (c.requires.seat.of, c.requires.other.of, c.requires.other.hand, search rules, join_joins c.args.seat.now.id c.args.other.id c.args.seat.now.me.0 c.args.other.me.0 c.requires.seat.pass c.requires.other.pass c.requires.seat.alive)

pub load-calls-requires : goal.load-calls-requires
load-calls-requires c = (c.join_seat.ensures.0 ∙ c.requires.seat.of, search rules, look_allows c.join_seat.new.seat.id c.args.shared.now.table_id.slots c.join_seat.new.seat.me)

pub returns-clause-places : goal.returns-clause-places
returns-clause-places c x =
    let o = c.load-calls.ensures.2.3 x in
    let n = once_one x c.load-calls.result in
    subst (λ (m : Me ℕ View). times x m.0 ≤ 1) (sym c.load-calls.ensures.2.0) (omega arith)
