-- Which things are marked as needed, and what a mark more does.
use Rattle.std.specs.Prelude.{ℕ, suc, ◌≡◌, ◌+◌, ◌*◌, ◌<◌, ◌≤◌, ◌⊎◌}
use Rattle.std.specs.Prelude.{Bool, true, false, List, [], ◌∷◌}
use Rattle.std.specs.Prelude.{length, slice_index_or}
use Rattle.std.specs.List.{Contains}
use Rattle.std.specs.List.Sorted.{IsStrictlyIncreasing}
use Rattle.lk_needs.specs.declared.thing.Thing.{Thing}
use Rattle.lk_needs.specs.declared.thing.Thing.TheVariants.{Unit as a_unit, Name as a_name}
use Rattle.lk_needs.specs.declared.thing.Thing.TheVariants.{Tree as a_tree, Numbered}
use Rattle.lk_needs.specs.declared.needs.Needs.{Needs}

-- how many things there are of each kind
pub record Room : Type 0 where
  pub units : ℕ
  pub names : ℕ
  pub trees : ℕ
  pub numbered : ℕ

-- it is one of them
abbrev pub IsThing : Room → Thing → Type 0
IsThing r (a_unit u) = u < r.units
IsThing r (a_name n) = n < r.names
IsThing r (a_tree e) = e < r.trees
IsThing r (Numbered n) = n < r.numbered

abbrev pub room_of : Needs → Room
room_of s = record {
  units = length s.units.items;
  names = length s.names.items;
  trees = length s.trees.items;
  numbered = length s.numbered.items;
}

abbrev pub mark_of : Needs → Thing → Bool
mark_of s (a_unit u) = slice_index_or s.units.items u false
mark_of s (a_name n) = slice_index_or s.names.items n false
mark_of s (a_tree e) = slice_index_or s.trees.items e false
mark_of s (Numbered n) = slice_index_or s.numbered.items n false

-- the thing is marked
pub record IsMarked (s : Needs) (t : Thing) : Type 0 where
  pub mark : mark_of s t ≡ true

abbrev pub IsMarkedUnit : Needs → ℕ → Type 0
IsMarkedUnit s u = IsMarked s (a_unit u)

-- the numbers are those of the first i units that are marked, rising
pub record AreListedTo (s : Needs) (i : ℕ) (ks : List ℕ) : Type 0 where
  pub rising : IsStrictlyIncreasing ks
  pub each : (k : ℕ) → Contains ks k → (k < i) × IsMarkedUnit s k
  pub all : (k : ℕ) → k < i → IsMarkedUnit s k → Contains ks k

-- it waits to be looked through
abbrev pub Waits : Needs → Thing → Type 0
Waits s t = Contains s.waiting.items t

-- how many marks are not set
abbrev pub unset : List Bool → ℕ
unset [] = 0
unset (true ∷ bs) = unset bs
unset (false ∷ bs) = suc (unset bs)

abbrev pub unmarked : Needs → ℕ
unmarked s =
    unset s.units.items + unset s.names.items + unset s.trees.items + unset s.numbered.items

-- the turns that a search still takes at most
abbrev pub turns : Needs → ℕ
turns s = 2 * unmarked s + length s.waiting.items

-- nothing is marked, of so many things
pub record IsUnmarked (s : Needs) (r : Room) : Type 0 where
  pub room : room_of s ≡ r
  pub none : (t : Thing) → IsMarked s t → ⊥
  pub waiting : s.waiting.items ≡ []

-- the thing is marked, and was already or not
pub record Marks (old new : Needs) (thing : Thing) (was : Bool) : Type 0 where
  pub before : was ≡ mark_of old thing
  pub here : IsMarked new thing
  pub only : (t : Thing) → IsMarked new t → (thing ≡ t) ⊎ IsMarked old t
  pub stays : (t : Thing) → IsMarked old t → IsMarked new t
  pub room : room_of new ≡ room_of old
  pub waiting : new.waiting.items ≡ old.waiting.items
  pub no_more : unmarked new ≤ unmarked old
  pub fewer : was ≡ false → unmarked new + 1 ≡ unmarked old

-- these things are marked, and no others; what was not marked before waits
pub record Enters (old new : Needs) (things : List Thing) : Type 0 where
  pub each : (t : Thing) → Contains things t → IsMarked new t
  pub only : (t : Thing) → IsMarked new t → Contains things t ⊎ IsMarked old t
  pub stays : (t : Thing) → IsMarked old t → IsMarked new t
  pub fresh : (t : Thing) → IsMarked new t → Waits new t ⊎ IsMarked old t
  pub waits : (t : Thing) → Waits old t → Waits new t
  pub waiting : (t : Thing) → Waits new t → IsMarked new t ⊎ Waits old t
  pub room : room_of new ≡ room_of old
  pub fewer : turns new ≤ turns old
