-- What waits on the stack of a walk, its last visit on top.
use Rattle.std.specs.Prelude.{◌≡◌, ◌⊎◌, ℕ, ◌<◌, ◌+◌, List, [], ◌∷◌, ◌++◌, map, Bool, true, false, Result, Ok, Err}
use Rattle.lk_seek.specs.declared.visit.Visit.{Visit}
use Rattle.lk_seek.specs.declared.visit.Visit.TheVariants.{Enter, Leave}
use Rattle.lk_seek.specs.Sought.{Sought, Finds}

-- what is found from the top of the stack on
abbrev pub found_on : {P E : Type 0} (s : Sought P E) → List (Visit P) → s.findings.Found
found_on s [] = s.findings.found false
found_on s (Enter p ∷ vs) = s.findings.then (found_on s vs) (s.found_in p)
found_on s (Leave p ∷ vs) = found_on s vs

-- the turns that are left
abbrev pub turns : {P E : Type 0} → Sought P E → List (Visit P) → ℕ
turns s [] = 0
turns s (Enter p ∷ vs) = s.cost p + 1 + turns s vs
turns s (Leave p ∷ vs) = 1 + turns s vs

-- in a part that the walk leaves is found what is found above it
abbrev pub AreWaiting : {P E : Type 0} → Sought P E → List (Visit P) → Type 0
AreWaiting s [] = Unit {0}
AreWaiting s (Enter p ∷ vs) = s.is_in p × AreWaiting s vs
AreWaiting s (Leave p ∷ vs) = (found_on s vs ≡ s.found_in p) × AreWaiting s vs

-- a part is put on the stack again, with its own parts above it
pub record IsOpened {P E : Type 0} (s : Sought P E) (p : P) (old new : List (Visit P)) : Type 0 where
  pub parts : List P
  pub pushed : new ≡ old ++ Leave p ∷ map Enter parts
  pub waiting : AreWaiting s (map Enter parts)
  pub cheaper : turns s (map Enter parts) < s.cost p
  pub finds : found_on s (map Enter parts) ≡ s.found_in p

-- nothing is found in a part and nothing is left of it, or it is opened
abbrev pub IsEntered : {P E : Type 0} → Sought P E → P → List (Visit P) → List (Visit P) → Type 0
IsEntered s p old new = ((new ≡ old) × Finds s p (Ok false)) ⊎ IsOpened s p old new

-- what became of a part from the top of the stack
abbrev pub IsLooked : {P E : Type 0} → Sought P E → P → List (Visit P) → List (Visit P) → Result Bool E → Type 0
IsLooked s p old new (Ok true) = Finds s p (Ok true)
IsLooked s p old new (Ok false) = IsEntered s p old new
IsLooked s p old new (Err e) = Finds s p (Err e)
