-- What a round begins with: the numbers of the units that are to be checked, and the verdicts that
-- the other units keep.
use Rattle.std.specs.Prelude.{ℕ, ◌≡◌, ◌<◌, ◌≤◌, ◌^◌, ◌⊎◌, Bool, true, false, List, [], ◌∷◌, ◌++◌}
use Rattle.std.specs.Prelude.{length, map, slice_get, slice_index_or, Some, Ok, Err}
use Rattle.std.specs.List.{Contains}
use Rattle.lk_rulebook.specs.Units.{Library}
use Rattle.lk_reach.specs.Axioms.{IsListOf}
use Rattle.lk_uses.specs.Closure.{IsUnchanged}
use Rattle.lk_verdict.specs.Told.{Verdict, out_of_memory}
use Rattle.lk_verdict.specs.Held.{verdict}
use Rattle.lk_verdict.specs.Checked.{Answer}
use Rattle.lk_recheck.specs.Rounds.{IsCounted}

-- the verdict that unit n keeps, by its mark, and memory where it keeps none
abbrev pub kept_verdict : List Verdict → ℕ → Bool → Verdict
kept_verdict vs n true = out_of_memory
kept_verdict vs n false = slice_index_or vs n out_of_memory

-- one unit more, which is to be checked where it keeps no verdict
pub record IsUnitMore (kept : Verdict) (unit : ℕ) (old_numbers new_numbers : List ℕ)
    (old_verdicts new_verdicts : List Verdict) : Type 0 where
  pub verdicts : new_verdicts ≡ old_verdicts ++ kept ∷ []
  pub none_kept : kept ≡ out_of_memory → new_numbers ≡ old_numbers ++ unit ∷ []
  pub one_kept : (kept ≡ out_of_memory → ⊥) → new_numbers ≡ old_numbers

-- the verdicts that the first i units keep, and the numbers of those that keep none
pub record IsPlanTo (stale : List Bool) (before : List Verdict) (i : ℕ) (numbers : List ℕ)
    (verdicts : List Verdict) : Type 0 where
  pub as_many : length verdicts ≡ i
  pub kept : (n : ℕ) (m : Bool) → n < i → slice_get stale n ≡ Some m
      → slice_get verdicts n ≡ Some (kept_verdict before n m)
  pub numbers_are : IsListOf (λ n. slice_get verdicts n ≡ Some out_of_memory) numbers
  pub few : length numbers ≤ i

-- behind us, whose verdicts are these, vs has these units checked, and the others keep theirs
pub record IsPlan (us vs : Library) (before : List Verdict) (numbers : List ℕ)
    (verdicts : List Verdict) : Type 0 where
  pub as_many : length verdicts ≡ length vs
  pub kept : (n : ℕ) (v : Verdict) → slice_get verdicts n ≡ Some v
      → (v ≡ out_of_memory) ⊎ (IsUnchanged us vs n × (slice_get before n ≡ Some v))
  pub stays : (n : ℕ) (v : Verdict) → IsUnchanged us vs n → slice_get before n ≡ Some v
      → slice_get verdicts n ≡ Some v
  pub counted : IsListOf (IsCounted us vs before) numbers
  pub few : length numbers < 2 ^ 32

-- where a number is not one of these, the same stands there as before
abbrev pub KeepOthers : List ℕ → List Verdict → List Verdict → Type 0
KeepOthers numbers old new =
    (n : ℕ) → (Contains numbers n → ⊥) → slice_get new n ≡ slice_get old n

-- an answer that stands at the place of number n
pub record IsAnswer (numbers : List ℕ) (answers : List Verdict) (n : ℕ) (v : Verdict) : Type 0
  where
    pub place : ℕ
    pub number : slice_get numbers place ≡ Some n
    pub answer : slice_get answers place ≡ Some v

-- the first i answers are put at their numbers
pub record ArePutTo (numbers : List ℕ) (answers : List Verdict) (i : ℕ) (old new : List Verdict)
    : Type 0 where
  pub as_many : length new ≡ length old
  pub each : (n : ℕ) (v : Verdict) → slice_get new n ≡ Some v
      → (slice_get old n ≡ Some v) ⊎ IsAnswer numbers answers n v
  pub put : (j n : ℕ) (v : Verdict) → j < i → slice_get numbers j ≡ Some n
      → slice_get answers j ≡ Some v → slice_get new n ≡ Some v
  pub others : KeepOthers numbers old new

abbrev pub ArePut : List ℕ → List Verdict → List Verdict → List Verdict → Type 0
ArePut numbers answers old new = ArePutTo numbers answers (length numbers) old new

-- an answer is put at the numbers; where it is want of memory, all stays
abbrev pub IsPut : List ℕ → Answer → List Verdict → List Verdict → Type 0
IsPut numbers (Ok vs) old new = ArePut numbers (map verdict vs.items) old new
IsPut numbers (Err e) old new = new ≡ old

-- an answer that may come for these numbers is put at them
pub record IsAnswered (MayAnswer : List ℕ → Answer → Type 0) (numbers : List ℕ)
    (old new : List Verdict) : Type 0 where
  pub answer : Answer
  pub may_come : MayAnswer numbers answer
  pub put : IsPut numbers answer old new
