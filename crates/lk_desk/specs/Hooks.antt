-- What a hook is as a shelf. It does not tell the answers of its shards; it remembers which shard
-- was taken last and which was given back.
use Rattle.std.specs.Prelude.{ℕ, Bool, true, false, List, [], ◌∷◌, Option, Some, None}
use Rattle.atomic_table.specs.Seated.{TableId}
use Rattle.lk_desk.specs.declared.view.View.{View}
use Rattle.lk_desk.specs.Job.{Job}
use Rattle.lk_desk.specs.Rule.{Slot}
use Rattle.lk_desk.specs.declared.hook.Hook.{Hook}
use Rattle.lk_desk.specs.Seats as seats
use Rattle.lk_desk.specs.Held.{still}
use Rattle.lk_desk.specs.Shelves.{Told, Numbered}

abbrev pub hook_job : Hook → Job
hook_job h = seats.job h.desk.now

abbrev pub hook_place : Hook → ℕ
hook_place h = h.seat.ghost_name

abbrev pub hook_table : Hook → TableId
hook_table h = h.seat.now.token.table_id

abbrev pub hook_rest : Hook → View
hook_rest h = still (seats.view h.seat.now)

abbrev pub hook_outs : Hook → ℕ
hook_outs h = (seats.view h.seat.now).outs

abbrev pub first_of : List (ℕ × Slot) → Option ℕ
first_of [] = None
first_of (x ∷ xs) = Some x.0

abbrev pub hook_in_hand : Hook → Option ℕ
hook_in_hand h = first_of (seats.hand h.seat.now)

abbrev pub hook_tells : Hook → Bool
hook_tells h = false

abbrev pub hook_remembers : Hook → Bool
hook_remembers h = true

abbrev pub hook_takes : Hook → ℕ
hook_takes h = (seats.view h.seat.now).takes

abbrev pub hook_taken : Hook → Numbered
hook_taken h = (seats.view h.seat.now).taken

abbrev pub hook_returned : Hook → Numbered
hook_returned h = (seats.view h.seat.now).returned

abbrev pub hook_told : Hook → Told
hook_told h k = []
