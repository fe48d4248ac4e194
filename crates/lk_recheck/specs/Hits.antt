-- Which things lead to a unit that changed, and marks on them.
use Rattle.std.specs.Prelude.{ℕ, ◌≡◌, ◌<◌, ◌≤◌, ◌⊎◌, Bool, true, false, List, [], length}
use Rattle.std.specs.Prelude.{slice_get, Some}
use Rattle.std.specs.List.{Contains}
use Rattle.lk_rulebook.specs.Units.{Library}
use Rattle.lk_uses.specs.Closure.{IsInClosure}
use Rattle.lk_needs.specs.declared.thing.Thing.{Thing}
use Rattle.lk_needs.specs.declared.thing.Thing.TheVariants.{Unit as a_unit, Name as a_name}
use Rattle.lk_needs.specs.declared.thing.Thing.TheVariants.{Tree as a_tree, Numbered}
use Rattle.lk_needs.specs.declared.needs.Needs.{Needs}
use Rattle.lk_needs.specs.Marks.{Room, IsThing, room_of, IsMarked, Waits, Enters}
use Rattle.lk_recheck.specs.declared.sources.Sources.{Sources}
use Rattle.lk_recheck.specs.Sources.{slot, IsSource, Behind}

-- it is no unit, or one of the first n
abbrev pub IsOpen : ℕ → Thing → Type 0
IsOpen n (a_unit u) = u < n
IsOpen n (a_name m) = Unit {0}
IsOpen n (a_tree e) = Unit {0}
IsOpen n (Numbered m) = Unit {0}

-- the thing leads to a unit that is marked as changed, by way of the first n units alone
pub data Hits (r : Room) (t : Sources) (changed : List Bool) (n : ℕ) : Thing → Type 0 where
  is_changed : (u : ℕ) → u < r.units → slice_get changed u ≡ Some true →
      Hits r t changed n (a_unit u)
  leads_on : (x y : Thing) → IsThing r x → IsThing r y → IsSource t (slot r x) (slot r y) →
      IsOpen n y → Hits r t changed n y → Hits r t changed n x

-- one of these things leads to such a unit
pub record AnyHits (r : Room) (t : Sources) (changed : List Bool) (n : ℕ) (ts : List Thing) : Type 0
  where
    pub thing : Thing
    pub is_one : Contains ts thing
    pub hits : Hits r t changed n thing

-- unit n or one of these things does
abbrev pub IsHit : Room → Sources → List Bool → List Thing → ℕ → Type 0
IsHit r t changed ts n = Hits r t changed n (a_unit n) ⊎ AnyHits r t changed n ts

-- the closure of unit n holds a unit that is marked as changed
abbrev pub IsTouched : Library → List Bool → ℕ → Type 0
IsTouched us changed n = (k : ℕ) × IsInClosure us n k × (slice_get changed k ≡ Some true)

-- the first i units are marked, where they changed; all that is marked waits
pub record AreStartedTo (r : Room) (changed : List Bool) (i : ℕ) (s : Needs) : Type 0 where
  pub room : room_of s ≡ r
  pub only : (x : Thing) → IsMarked s x
      → (u : ℕ) × (x ≡ a_unit u) × (u < r.units) × (slice_get changed u ≡ Some true)
  pub each : (u : ℕ) → u < i → slice_get changed u ≡ Some true → IsMarked s (a_unit u)
  pub fresh : (x : Thing) → IsMarked s x → Waits s x
  pub waiting : (x : Thing) → Waits s x → IsMarked s x

-- all that leads to the thing is marked
pub record IsPassed (r : Room) (t : Sources) (s : Needs) (y : Thing) : Type 0 where
  pub marked : (x : Thing) → IsThing r x → IsSource t (slot r x) (slot r y) → IsMarked s x

-- what is marked leads to a unit that changed, and waits, is still closed or was passed on
pub record IsSpreading (r : Room) (t : Sources) (changed : List Bool) (n : ℕ) (s : Needs) : Type 0
  where
    pub room : room_of s ≡ r
    pub inside : (x : Thing) → IsMarked s x → IsThing r x
    pub known : (x : Thing) → IsMarked s x → Hits r t changed n x
    pub starts : (u : ℕ) → u < r.units → slice_get changed u ≡ Some true → IsMarked s (a_unit u)
    pub done : (y : Thing) → IsMarked s y → IsOpen n y → Waits s y ⊎ IsPassed r t s y
    pub waiting : (y : Thing) → Waits s y → IsMarked s y

-- nothing waits
pub record IsSpread (r : Room) (t : Sources) (changed : List Bool) (n : ℕ) (s : Needs) : Type 0
  where
    pub spreading : IsSpreading r t changed n s
    pub none : s.waiting.items ≡ []

-- all that leads to number b is marked
pub record Passes (r : Room) (t : Sources) (b : ℕ) (old new : Needs) : Type 0 where
  pub things : List Thing
  pub enters : Enters old new things
  pub inside : (x : Thing) → Contains things x → IsThing r x
  pub only : (x : Thing) → Contains things x → IsSource t (slot r x) b
  pub each : (x : Thing) → IsThing r x → IsSource t (slot r x) b → Contains things x

-- all is, but for the chain that ends before place h
pub record IsPassing (r : Room) (t : Sources) (b : ℕ) (old new : Needs) (h : ℕ) : Type 0 where
  pub things : List Thing
  pub enters : Enters old new things
  pub inside : (x : Thing) → Contains things x → IsThing r x
  pub only : (x : Thing) → Contains things x → IsSource t (slot r x) b
  pub each : (x : Thing) → IsThing r x → IsSource t (slot r x) b
      → Contains things x ⊎ Behind t.links.items (slot r x) h
  pub left : (p : ℕ) → Behind t.links.items p h → IsSource t p b
  pub within : h ≤ length t.links.items

-- all that leads to the thing is marked, where it is open
pub record Steps (r : Room) (t : Sources) (n : ℕ) (y : Thing) (old new : Needs) : Type 0 where
  pub things : List Thing
  pub enters : Enters old new things
  pub is_open : (x : Thing) → Contains things x → IsOpen n y
  pub inside : (x : Thing) → Contains things x → IsThing r x
  pub only : (x : Thing) → Contains things x → IsSource t (slot r x) (slot r y)
  pub each : (x : Thing) → IsOpen n y → IsThing r x → IsSource t (slot r x) (slot r y)
      → Contains things x

-- one of them is marked
pub record AnyMarked (s : Needs) (ts : List Thing) : Type 0 where
  pub thing : Thing
  pub is_one : Contains ts thing
  pub marked : IsMarked s thing

-- marks for the first i units, whether the unit or one of these things leads to what changed
pub record TellHits (r : Room) (t : Sources) (changed : List Bool) (ts : List Thing) (i : ℕ)
    (marks : List Bool) : Type 0 where
  pub as_many : length marks ≡ i
  pub hit : (n : ℕ) → slice_get marks n ≡ Some true → IsHit r t changed ts n
  pub unhit : (n : ℕ) → slice_get marks n ≡ Some false → IsHit r t changed ts n → ⊥

-- the first i units are marked, and nothing waits
pub record IsMarking (r : Room) (t : Sources) (changed : List Bool) (ts : List Thing) (i : ℕ)
    (s : Needs) (marks : List Bool) : Type 0 where
  pub spread : IsSpread r t changed i s
  pub tells : TellHits r t changed ts i marks

-- what waits is of this room
pub record AreWithin (r : Room) (s : Needs) : Type 0 where
  pub room : room_of s ≡ r
  pub waiting_in : (x : Thing) → Waits s x → IsThing r x
