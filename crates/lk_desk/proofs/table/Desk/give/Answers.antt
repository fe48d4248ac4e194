use Rattle.std.proofs.Common.{ℕ, List, ◌∷◌, ◌∙◌, ap, Some, rules, subst, sym, ◌<◌}
use Rattle.atomic_table.specs.Table.{Me, rest}
use Rattle.lk_desk.specs.declared.view.View.{View}
use Rattle.lk_desk.specs.Job.{Job}
use Rattle.lk_desk.specs.Truth.{AreTrue, entries_of}
use Rattle.lk_desk.specs.Rule.{Slot}
use Rattle.lk_desk.proofs.Allowed.{give_allows}
use Rattle.lk_desk.specs.Seats.{job}
use Rattle.lk_desk.proofs.table.Desk.give.Goals as goal

pub store-requires : goal.store-requires
store-requires c =
    let holds : Me Slot View → List (ℕ × Slot) = λ m. m.1 in
    let seats : Me Slot View → ℕ = λ m. m.0.seats in
    let its_job : Me Slot View → Job = λ m. m.0.job in
    let after = c.exchange.ensures.3 in (
      search rules,
      search rules,
      give_allows (job c.args.self.now) c.args.self.now.table.shared.table_id.slots c.exchange.new.seat.id c.args.shard c.requires.shard c.exchange.new.seat.me
          (subst (λ (n : ℕ). 0 < n) (sym (ap seats after)) c.args.seat.now.alive)
          c.args.given
          (ap holds after ∙ ap (λ (l : List (ℕ × Slot)). (c.args.shard, Some c.args.given) ∷ rest l) c.requires.in_hand)
          (subst (λ (j : Job). AreTrue j (entries_of c.args.given)) (sym (ap its_job after ∙ c.requires.of.1)) c.requires.true_entries),
    )
