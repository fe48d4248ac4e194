-- What it means that a number stands once among the views.
use Rattle.std.specs.Prelude.{◌≡◌, ◌≢◌, ℕ, ◌<◌}
use mathlib.Core.Option.{some}
use lib.ListN.{get_elem?}
use Rattle.lk_desk.specs.declared.view.View.{View}
use Rattle.lk_desk.specs.Rule.{Desk, times}

-- one live view has the number, once, and no other view has it
abbrev pub HasOne : Desk → ℕ → Type 0
HasOne s x =
    (id : ℕ) × (v : View) × (get_elem? s.views id ≡ some v) × (0 < v.seats) × (times x v ≡ 1)
    × ((j : ℕ) (u : View) → j ≢ id → get_elem? s.views j ≡ some u → times x u ≡ 0)

-- no view has it
abbrev pub HasNone : Desk → ℕ → Type 0
HasNone s x = (j : ℕ) (u : View) → get_elem? s.views j ≡ some u → times x u ≡ 0
