-- Closures as lists of numbers, and the units that such a list picks.
use Rattle.std.specs.Prelude.{ℕ, ◌||◌, nat_eq, Bool, false, List, [], ◌∷◌, slice_get, Some, None}
use Rattle.lk_rulebook.specs.Units.{Library}
use Rattle.lk_reach.specs.Axioms.{IsListOf}
use Rattle.lk_uses.specs.Closure.{IsInClosure}

-- the closure of unit n, in the order of the units
abbrev pub IsClosureList : Library → ℕ → List ℕ → Type 0
IsClosureList us n ks = IsListOf (IsInClosure us n) ks

-- the number is one of these
abbrev pub is_listed : List ℕ → ℕ → Bool
is_listed [] k = false
is_listed (j ∷ js) k = nat_eq j k || is_listed js k

-- the units of these numbers, in the order of the list
abbrev pub units_at : Library → List ℕ → Library
units_at us [] = []
units_at us (k ∷ ks) = elim (slice_get us k) [ Some u ↦ u ∷ units_at us ks | None ↦ units_at us ks ]
