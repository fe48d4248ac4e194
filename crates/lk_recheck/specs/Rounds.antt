-- Verdicts that are kept over changes of a library.
use Rattle.std.specs.Prelude.{ℕ, ◌≡◌, ◌<◌, ◌⊎◌, Bool, true, List, length, map, slice_get, Some, Ok, Err}
use Rattle.std.specs.List.{Contains}
use Rattle.lk_rulebook.specs.Units.{Library}
use Rattle.lk_reach.specs.Axioms.{IsListOf}
use Rattle.lk_rulebook.specs.Spelled.{library_spelled}
use Rattle.lk_uses.specs.Closure.{IsUnchanged}
use Rattle.lk_env.specs.Units.{library_of}
use Rattle.lk_env.specs.StoredLibrary.{StoredLibrary}
use Rattle.lk_verdict.specs.Told.{Verdict, out_of_memory, IsPlainVerdict}
use Rattle.lk_verdict.specs.Held.{verdict}
use Rattle.lk_verdict.specs.Checked.{Answer}

-- What is kept: the library of the last round, the verdicts of its units under the budget, of which
-- of them something in their closure changed in that round, and whether there was a round.
pub record Kept : Type 0 where
  pub budget : ℕ
  pub begun : Bool
  pub library : StoredLibrary
  pub verdicts : List Verdict
  pub stale : List Bool

-- each unit has its plain verdict, or memory
pub record ArePlain (us : Library) (budget : ℕ) (vs : List Verdict) : Type 0 where
  pub as_many : length vs ≡ length us
  pub each : (n : ℕ) (v : Verdict) → slice_get vs n ≡ Some v → IsPlainVerdict us budget n v

-- what is kept is right
pub record IsKept (k : Kept) : Type 0 where
  pub spelled : library_spelled (library_of k.library) ≡ true
  pub plain : ArePlain (library_of k.library) k.budget k.verdicts

-- Unit n of vs has to be checked, where us was before and these were its verdicts: something in its
-- closure, in the list before or in this one, is new, changed or gone, be it the unit itself; or its
-- verdict was memory.
abbrev pub IsCounted : Library → Library → List Verdict → ℕ → Type 0
IsCounted us vs verdicts n =
    (n < length vs) × ((IsUnchanged us vs n → ⊥) ⊎ (slice_get verdicts n ≡ Some out_of_memory))

-- the other units keep their verdicts
abbrev pub KeepVerdicts : Library → Library → List Verdict → List Verdict → Type 0
KeepVerdicts us vs old new = (n : ℕ) (v : Verdict) → IsUnchanged us vs n → slice_get old n ≡ Some v
    → (v ≡ out_of_memory → ⊥) → slice_get new n ≡ Some v

-- so many units have to be checked
pub record IsCount (us vs : Library) (verdicts : List Verdict) (count : ℕ) : Type 0 where
  pub numbers : List ℕ
  pub counted : IsListOf (IsCounted us vs verdicts) numbers
  pub as_many : length numbers ≡ count

-- The answer gives each unit of these numbers the verdict that it has now. Want of memory gives each
-- memory.
abbrev pub GivesVerdicts : List ℕ → Answer → List Verdict → Type 0
GivesVerdicts numbers (Ok vs) new = (i n : ℕ) (v : Verdict) → slice_get numbers i ≡ Some n
    → slice_get (map verdict vs.items) i ≡ Some v → slice_get new n ≡ Some v
GivesVerdicts numbers (Err e) new =
    (n : ℕ) → Contains numbers n → slice_get new n ≡ Some out_of_memory

-- the units that have to be checked were handed on, they alone and in their order, in one call, and
-- have the verdicts that it answered
pub record AreHandedOn (MayAnswer : List ℕ → Answer → Type 0) (us vs : Library)
    (old new : List Verdict) : Type 0 where
  pub numbers : List ℕ
  pub counted : IsListOf (IsCounted us vs old) numbers
  pub answer : Answer
  pub may_come : MayAnswer numbers answer
  pub given : GivesVerdicts numbers answer new
