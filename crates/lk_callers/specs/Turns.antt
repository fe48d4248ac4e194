-- Which pass adds which text.
use Rattle.std.specs.Prelude.{ℕ, ◌%◌, ◌<◌, ◌≤◌}
use Rattle.lk_callers.specs.declared.turns.Turns.{Turns}

-- Text k is that of the caller whose number is left over where k is divided by how many callers
-- there are; and of a caller whose number is divided so by how many passes there are, that pass's.
abbrev pub pass_of : Turns → ℕ → ℕ
pass_of t k = k % t.callers % t.passes

-- there is a caller, and a pass
abbrev pub AreTurns : Turns → Type 0
AreTurns t = (1 ≤ t.callers) × (1 ≤ t.passes)

-- text k is added by one of the passes from the first of these numbers up to the second
abbrev pub IsTurnOf : Turns → ℕ → ℕ → ℕ → Type 0
IsTurnOf t low high k = (low ≤ pass_of t k) × (pass_of t k < high)
