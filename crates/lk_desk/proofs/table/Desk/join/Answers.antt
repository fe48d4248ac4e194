use Rattle.std.proofs.Common.{ℕ, List, ◌∙◌, ap, rules, subst, sym, ◌<◌}
use Rattle.atomic_table.specs.Table.{Me}
use Rattle.lk_desk.specs.declared.view.View.{View}
use Rattle.lk_desk.specs.Rule.{Slot}
use Rattle.lk_desk.proofs.Allowed.{load_allows, join_joins}
use Rattle.lk_desk.specs.Seats.{job}
use Rattle.lk_desk.proofs.table.Desk.join.Goals as goal

pub load-below-requires : goal.load-below-requires
load-below-requires c = (search rules, search rules, load_allows (job c.args.self.now) c.args.other.token.id c.args.self.now.table.shared.table_id.slots c.args.other.token.me)

pub join_seat-requires : goal.join_seat-requires
join_seat-requires c =
    let holds : Me Slot View → List (ℕ × Slot) = λ m. m.1 in
    let seats : Me Slot View → ℕ = λ m. m.0.seats in
    let same = c.load-below.ensures.2.0 in (
      search rules,
      c.load-below.ensures.0 ∙ c.requires.1.0,
      ap holds same ∙ c.requires.1.2,
      search rules,
      join_joins (job c.args.self.now) c.args.seat.now.token.id c.load-below.new.seat.id c.args.seat.now.token.me.0 c.load-below.new.seat.me.0 c.args.seat.now.alive
          (subst (λ (n : ℕ). 0 < n) (sym (ap seats same)) c.args.other.alive),
    )
