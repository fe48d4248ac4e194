-- The axioms of each unit of a library, and sets by their numbers.
use Rattle.std.specs.Prelude.{ℕ, ◌≡◌, ◌<◌, ◌≤◌, ◌⊎◌, Bool, false, List, [], length, map, slice_index_or}
use Rattle.std.specs.Prelude.{slice_get, Option, Some, None}
use Rattle.std.specs.List.{Contains, range_with_len}
use Rattle.std.specs.List.Sorted.{IsStrictlyIncreasing}
use Rattle.lk_rulebook.specs.Units.{Library}
use Rattle.lk_reach.specs.Axioms.{IsAxiomOf}
use Rattle.lk_reach.specs.Computed.{axioms_of}

-- of unit 0, unit 1 and so on
abbrev pub axiom_lists : Library → List (List ℕ)
axiom_lists us = map (axioms_of us) (range_with_len 0 (length us))

-- the set under a number
abbrev pub set_at : List (List ℕ) → ℕ → List ℕ
set_at sets k = slice_index_or sets k []

-- each unit that is not stale has the axioms that it had
abbrev pub KeepsAxioms : Library → List (List ℕ) → List Bool → Type 0
KeepsAxioms us sets stale = (n : ℕ) → n < length us → slice_get stale n ≡ Some false
    → (n < length sets) × (set_at sets n ≡ axioms_of us n)

-- unit n of us has the same axioms in vs
pub record HasSameAxioms (us vs : Library) (n : ℕ) : Type 0 where
  pub stands : n < length us
  pub there : (k : ℕ) → IsAxiomOf us n k → IsAxiomOf vs n k
  pub back : (k : ℕ) → IsAxiomOf vs n k → IsAxiomOf us n k

-- there is a set 0, and it is empty
pub record HasEmptySet (sets : List (List ℕ)) : Type 0 where
  pub empty_in : 0 < length sets
  pub empty : set_at sets 0 ≡ []

-- the number of the set that a unit had, where its mark says that it is not stale
abbrev pub unless_stale : Option Bool → Option ℕ → Option ℕ
unless_stale (Some false) set = set
unless_stale _ set = None

-- more sets may have come, and each that was there has its number still
pub record Keeps (old new : List (List ℕ)) : Type 0 where
  pub longer : length old ≤ length new
  pub same : (k : ℕ) → k < length old → set_at new k ≡ set_at old k

-- zs has the numbers of xs and of ys
pub record IsUnion (xs ys zs : List ℕ) : Type 0 where
  pub each : (k : ℕ) → Contains zs k → Contains xs k ⊎ Contains ys k
  pub left : (k : ℕ) → Contains xs k → Contains zs k
  pub right : (k : ℕ) → Contains ys k → Contains zs k

-- set r is the union of the sets a and b
pub record IsUnited (old new : List (List ℕ)) (a b r : ℕ) : Type 0 where
  pub keeps : Keeps old new
  pub set_in : r < length new
  pub rising : IsStrictlyIncreasing (set_at new r)
  pub union : IsUnion (set_at old a) (set_at old b) (set_at new r)
