-- A seat of a desk.
use Rattle.std.specs.Prelude.{◌≡◌, ◌<◌, ◌++◌, ◌∷◌, ℕ, List, [], All, true}
use Rattle.lk_desk.specs.declared.view.View.{View}
use Rattle.lk_desk.specs.Job.{Job, job_of}
use Rattle.lk_desk.specs.Rule.{Slot, first_view}
use Rattle.lk_desk.specs.declared.table.Seat.{Seat}
use Rattle.lk_desk.specs.declared.table.Desk.{Desk}

-- what the seat knows
abbrev pub view : Seat → View
view seat = seat.token.me.0

-- the shards that it has in hand
abbrev pub hand : Seat → List (ℕ × Slot)
hand seat = seat.token.me.1

-- the job of a desk
abbrev pub job : Desk → Job
job desk = job_of desk.table.shared.key

-- the seat is of this desk
abbrev pub IsOf : Seat → Desk → Type 0
IsOf seat desk = (seat.token.table_id ≡ desk.table.shared.table_id) × ((view seat).job ≡ job desk)

-- and has no shard in hand
abbrev pub Sits : Seat → Desk → Type 0
Sits seat desk =
    (seat.token.table_id ≡ desk.table.shared.table_id) × ((view seat).job ≡ job desk)
    × (hand seat ≡ [])

-- and has drawn nothing
abbrev pub IsNew : Seat → Desk → Type 0
IsNew seat desk = Sits seat desk × (view seat ≡ first_view (job desk))

-- the seat is of this desk still, with the same shards in hand
abbrev pub Stays : Seat → Seat → Desk → Type 0
Stays before after desk = IsOf after desk × (hand after ≡ hand before)

-- and knows what it knew
abbrev pub IsUnchanged : Seat → Seat → Desk → Type 0
IsUnchanged before after desk =
    IsOf after desk × (hand after ≡ hand before) × (view after ≡ view before)

-- it drew this number, which is above all that it drew before
abbrev pub Drew : Seat → Seat → ℕ → Type 0
Drew before after n =
    All (λ x. x < n) (view before).drawn
    × (view after ≡ record (view before) { drawn = (view before).drawn ++ n ∷ [] })

-- it has ended, and else knows what it knew
abbrev pub Ended : Seat → Seat → Type 0
Ended before after =
    view after ≡ record (view before) { overdrawn = (view after).overdrawn; ended = true }

-- it was refused a new seat, and else knows what it knew
abbrev pub WasRefused : Seat → Seat → Type 0
WasRefused before after =
    (0 < (view after).refusals)
    × (view after ≡ record (view before) { refusals = (view after).refusals })
