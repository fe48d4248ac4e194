-- All that things of a library lead to, turned round.
use Rattle.std.specs.Prelude.{ℕ, ◌≡◌, ◌<◌, List, [], length}
use Rattle.std.specs.List.{Contains}
use Rattle.lk_store.specs.declared.tables.Tables.{Tables}
use Rattle.lk_env.specs.declared.unit.Unit.{Unit as StoredUnit}
use Rattle.lk_env.specs.StoredLibrary.{StoredLibrary}
use Rattle.lk_needs.specs.declared.thing.Thing.{Thing}
use Rattle.lk_needs.specs.Leads.{room_at, IsOfLibrary, AreRecursors, Leads}
use Rattle.lk_recheck.specs.declared.sources.Sources.{Sources}
use Rattle.lk_needs.specs.Builtins.{AreBuiltins}
use Rattle.lk_store.specs.Store.{contents_of}
use Rattle.lk_recheck.specs.declared.building.StoreLinks.{StoreLinks}
use Rattle.lk_recheck.specs.Sources.{slot, slots, listed, IsSource, AreLinked}

-- the library of a store and units, without budgets
abbrev pub stored_at : Tables → List StoredUnit → StoredLibrary
stored_at t us = record { tables = t; units = us; budgets = [] }

-- the thing leads to just what it leads to in the library, where names are looked up behind all
-- units
pub record IsLed (l : StoredLibrary) (t : Sources) (x : Thing) : Type 0 where
  pub things : List Thing
  pub leads : Leads l (length l.units) x things
  pub each : (y : Thing) → Contains things y
      → IsSource t (slot (room_at l) x) (slot (room_at l) y)
  pub only : (y : Thing) → IsOfLibrary l y
      → IsSource t (slot (room_at l) x) (slot (room_at l) y) → Contains things y

-- so do those of the first i numbers, and others lead to nothing
pub record IsBuiltTo (l : StoredLibrary) (i : ℕ) (t : Sources) : Type 0 where
  pub linked : AreLinked t
  pub as_many : length t.last.items ≡ slots (room_at l)
  pub before : (x : Thing) → IsOfLibrary l x → slot (room_at l) x < i → IsLed l t x
  pub none : (p q : ℕ) → IsSource t p q → p < i

abbrev pub IsBuilt : StoredLibrary → Sources → Type 0
IsBuilt l t = IsBuiltTo l (slots (room_at l)) t

-- of a store without units all is built but what names lead to, and the built-in names are listed
pub record AreLinksOf (t : Tables) (links : StoreLinks) : Type 0 where
  pub built : IsBuiltTo (stored_at t []) (listed (room_at (stored_at t []))) links.sources
  pub recursors : AreRecursors (contents_of t) links.recursors
  pub builtins : AreBuiltins (contents_of t) links.builtins.items
