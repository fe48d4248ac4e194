-- Cases that are enough for a level, and how they are listed.
use Rattle.std.specs.Prelude.{◌≡◌, ℕ, ◌<◌, ◌≤◌, ◌⊎◌, true, false, List, [], take, length, All}
use Rattle.std.specs.Prelude.{slice_index_or}
use Rattle.lk_tree.specs.Tree.{Name, Level}
use Rattle.lk_tree.specs.Level.{level_value}
use Rattle.lk_tree.specs.LevelTest.{params_of, right_params}
use Rattle.lk_store.specs.Hashes.{hash_of_pair}
use Rattle.lk_store.specs.Contents.{Contents, level_at}
use Rattle.lk_level_order.specs.declared.support.Support.{Support}
use Rattle.lk_level_order.specs.declared.listing.Chosen.{Chosen}
use Rattle.lk_level_order.specs.declared.listing.Cases.{Cases}
use Rattle.lk_level_order.specs.declared.listing.Cover.{Cover}
use Rattle.lk_level_order.specs.Digits.{has_one, with_one, Meet, case_of}
use Rattle.lk_level_order.specs.Parameters.{IsWithin, AreDifferent}

-- under some values that are no greater the level is no less, and their case is one of those
pub record IsServed (ns : List Name) (IsOne : ℕ → Type 0) (l : Level) (σ : Name → ℕ) : Type 0 where
  pub values : Name → ℕ
  pub below : (n : Name) → values n ≤ σ n
  pub enough : level_value σ l ≤ level_value values l
  pub chosen : IsOne (case_of ns values)

-- so a level that is at most another in those cases is so under every assignment
abbrev pub AreEnough : List Name → (ℕ → Type 0) → Level → Type 0
AreEnough ns IsOne l = (σ : Name → ℕ) → IsServed ns IsOne l σ

abbrev pub AreEnoughWithin : List Name → (ℕ → Type 0) → Level → Type 0
AreEnoughWithin ns IsOne l = IsWithin (right_params l) ns → AreEnough ns IsOne l

-- when a level is above 0: under every assignment, or where one of these names is
pub record HasSupport (ns : List Name) (s : Support) (l : Level) : Type 0 where
  pub surely : s.surely ≡ true → (σ : Name → ℕ) → 0 < level_value σ l
  pub each : (n : ℕ) → n < length ns → has_one s.by n ≡ true
      → (σ : Name → ℕ) → 0 < σ (slice_index_or ns n []) → 0 < level_value σ l
  pub some : s.surely ≡ false → (σ : Name → ℕ) → 0 < level_value σ l
      → (n : ℕ) × (n < length ns) × (has_one s.by n ≡ true) × (0 < σ (slice_index_or ns n []))

-- in the case it is above 0
abbrev pub IsMet : ℕ → Support → ℕ → Type 0
IsMet k s case = (s.surely ≡ true) ⊎ Meet k s.by case

-- listed is the case itself, in which it is above 0, or the case with each name by which it is
abbrev pub IsJoined : ℕ → Support → (ℕ → Type 0) → ℕ → Type 0
IsJoined k s IsOne case =
    (IsMet k s case × IsOne case)
    ⊎ ((s.surely ≡ false) × ((n : ℕ) → n < k → has_one s.by n ≡ true → IsOne (with_one case n)))

abbrev pub hash_of_chosen : ℕ → Chosen → ℕ
hash_of_chosen seed c = hash_of_pair seed c.list c.case

-- the case is one of the rows from first up to end
pub record IsListed (rows : List Chosen) (first end case : ℕ) : Type 0 where
  pub place : ℕ
  pub after : first ≤ place
  pub before : place < end
  pub known : place < length rows
  pub is : (d : Chosen) → (slice_index_or rows place d).case ≡ case

abbrev pub IsAmong : List Chosen → Cases → ℕ → Type 0
IsAmong rows cases case = IsListed rows cases.first cases.end case

-- each row stays
pub record Grows (old new : List Chosen) : Type 0 where
  pub longer : length old ≤ length new
  pub same : (i : ℕ) (d : Chosen) → i < length old
      → slice_index_or new i d ≡ slice_index_or old i d

-- what is listed for a level is enough for it, and its support is right, where its parameters inside
-- right sides, or all of them, are among the names
pub record IsCover (ns : List Name) (rows : List Chosen) (c : Cover) (l : Level) : Type 0 where
  pub cases : AreEnoughWithin ns (IsAmong rows c.cases) l
  pub support : IsWithin (params_of l) ns → HasSupport ns c.support l

-- they are listed
abbrev pub AreInRows : List Chosen → List Cover → Type 0
AreInRows rows covers = All (λ (c : Cover). c.cases.end ≤ length rows) covers

-- the first levels have their covers
abbrev pub AreCovers : Contents → ℕ → List Chosen → List Cover → Type 0
AreCovers d k rows covers =
    (j : ℕ) (e : Cover) → j < length covers
    → IsCover (take k d.names) rows (slice_index_or covers j e) (level_at d j)

-- whatever the contents are that have so many names, k or more, of which none stands twice
abbrev pub OverNames : ℕ → ℕ → (Contents → Type 0) → Type 0
OverNames k count P =
    (d : Contents) → AreDifferent d.names → k ≤ length d.names → count ≡ length d.names → P d

-- the cover of a level that is 0, or above 0 by none of the names
abbrev pub IsOfNone : List Chosen → Cover → Type 0
IsOfNone rows c = (c.support.surely ≡ false) × (c.support.by ≡ 0) × IsAmong rows c.cases 0
