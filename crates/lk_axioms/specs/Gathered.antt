-- What is known while the units are gone through in their order.
use Rattle.std.specs.Prelude.{ℕ, ◌≡◌, ◌<◌, ◌+◌, Bool, false, List, [], ◌∷◌, length, slice_index_or}
use Rattle.std.specs.Prelude.{slice_get, Some}
use Rattle.std.specs.List.Sorted.{IsStrictlyIncreasing}
use Rattle.lk_rulebook.specs.Units.{Library}
use Rattle.lk_reach.specs.Axioms.{IsListOf}
use Rattle.lk_store.specs.Contents.{Contents, tree_at}
use Rattle.lk_store.specs.Store.{contents_of}
use Rattle.lk_env.specs.Units.{library_of}
use Rattle.lk_env.specs.StoredLibrary.{StoredLibrary}
use Rattle.lk_axioms.specs.declared.finding.Finding.{Finding}
use Rattle.lk_axioms.specs.declared.gathering.Gathering.{Gathering}
use Rattle.lk_axioms.specs.Lists.{set_at, HasEmptySet, Keeps, IsUnion}
use Rattle.lk_axioms.specs.Gives.{TreeGives, TreesGive, IsFinding, IsJoined, cell_at, IsKnown, IsSetOfUnit}

-- the units before unit n are done: their sets are their axioms, and what is kept of a tree is
-- right from unit n on
pub record IsRight (c : Contents) (us : Library) (n : ℕ) (g : Gathering) : Type 0 where
  pub has_empty : HasEmptySet g.sets
  pub one_each : length g.cells.items ≡ length c.trees
  pub cells : (e : ℕ) → e < length c.trees
      → IsFinding (TreeGives us (tree_at c e)) n g.sets (cell_at g.cells.items e)
  pub count : length g.units.items ≡ n
  pub units : (m : ℕ) → m < n → IsSetOfUnit us g.sets m (slice_index_or g.units.items m 0)

-- the same of the library of a store's tables and units
abbrev pub IsRightFor : StoredLibrary → ℕ → Gathering → Type 0
IsRightFor l n g = IsRight (contents_of l.tables) (library_of l) n g

-- each unit that is not stale has the set whose number was kept for it
pub record AreKept (us : Library) (sets : List (List ℕ)) (kept : List ℕ) (stale : List Bool) : Type 0
  where
    pub each : (n set : ℕ) → n < length us → slice_get stale n ≡ Some false
        → slice_get kept n ≡ Some set → IsSetOfUnit us sets n set

-- the number of a unit, of fewer than 2 ^ 32
abbrev pub IsUnitNumber : ℕ → Type 0
IsUnitNumber n = n + 1 < 4294967296

-- what is known stays known
abbrev pub StaysKnown : ℕ → Gathering → Gathering → Type 0
StaysKnown n old new = (e : ℕ) → IsKnown n old.cells.items e → IsKnown n new.cells.items e

-- sets may have come, and a finding of P is made that holds at unit n
pub record IsMade (P : ℕ → ℕ → Type 0) (n : ℕ) (old new : Gathering) (f : Finding) : Type 0 where
  pub keeps : Keeps old.sets new.sets
  pub cells : new.cells.items ≡ old.cells.items
  pub units : new.units.items ≡ old.units.items
  pub finding : IsFinding P n new.sets f
  pub known : n < f.below

-- two findings are joined, and nothing else is new
pub record AreJoined (old new : Gathering) (a b r : Finding) : Type 0 where
  pub joined : IsJoined old.sets new.sets a b r
  pub cells : new.cells.items ≡ old.cells.items
  pub units : new.units.items ≡ old.units.items

-- what a tree leads to is known
pub record IsLeft (c : Contents) (us : Library) (n e : ℕ) (old new : Gathering) : Type 0 where
  pub right : IsRight c us n new
  pub keeps : Keeps old.sets new.sets
  pub stays : StaysKnown n old new
  pub known : IsKnown n new.cells.items e

-- sets may have come, and a set is what these trees lead to at unit n
pub record AreGathered (c : Contents) (us : Library) (n : ℕ) (es : List ℕ)
    (old new : Gathering) (set : ℕ) : Type 0 where
  pub right : IsRight c us n new
  pub keeps : Keeps old.sets new.sets
  pub set_in : set < length new.sets
  pub listed : IsListOf (TreesGive c us es n) (set_at new.sets set)

-- sets may have come, and a set is that of unit n
pub record IsUnitGathered (c : Contents) (us : Library) (n : ℕ)
    (old new : Gathering) (set : ℕ) : Type 0 where
  pub right : IsRight c us n new
  pub keeps : Keeps old.sets new.sets
  pub unit_set : IsSetOfUnit us new.sets n set

-- the unit's own number is added to a set
pub record HasItself (old new : List (List ℕ)) (n set r : ℕ) : Type 0 where
  pub keeps : Keeps old new
  pub set_in : r < length new
  pub rising : IsStrictlyIncreasing (set_at new r)
  pub union : IsUnion (set_at old set) (n ∷ []) (set_at new r)
