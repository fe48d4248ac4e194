-- For each name of a store the first unit that has it.
use Rattle.std.specs.Prelude.{ℕ, suc, ◌≡◌, ◌<◌, nat_eq, List, [], ◌∷◌, length, Some, None, option_map}
use Rattle.std.specs.Prelude.{slice_index_or, if◌then◌else◌}
use Rattle.std.specs.declared.option.Option.{Option}
use Rattle.lk_tree.specs.Tree.{Name}
use Rattle.lk_rulebook.specs.Units.{Library}
use Rattle.lk_store.specs.Contents.{Contents, name_at}
use Rattle.lk_env.specs.declared.unit.Unit.{Unit as StoredUnit}
use Rattle.lk_env.specs.Units.{library_at, unit_at, AreUnitsIn}
use Rattle.lk_recheck.specs.Spliced.{unit_name, are_same, put_unit}

-- the number of the first unit of the name
abbrev pub place_of : Library → Option Name → Option ℕ
place_of [] x = None
place_of (u ∷ us) x = if are_same (unit_name u) x then Some 0 else option_map suc (place_of us x)

pub record ArePlaces (c : Contents) (us : List StoredUnit) (places : List (Option ℕ)) : Type 0
  where
    pub one_each : length places ≡ length c.names
    pub right : (n : ℕ) → n < length c.names
        → slice_index_or places n None ≡ place_of (library_at c us) (Some (name_at c n))

-- the first if it is there, else the second
abbrev pub first_of : Option ℕ → Option ℕ → Option ℕ
first_of (Some p) o = Some p
first_of None o = o

-- the number of a unit, where its name is name n
abbrev pub own_place : Option ℕ → ℕ → ℕ → Option ℕ
own_place None unit n = None
own_place (Some m) unit n = if nat_eq m n then Some unit else None

-- a unit is noted under its name, unless the name has one
pub record IsNoted (name : Option ℕ) (unit : ℕ) (old new : List (Option ℕ)) : Type 0 where
  pub one_each : length new ≡ length old
  pub noted : (n : ℕ) → n < length old
      → slice_index_or new n None ≡ first_of (slice_index_or old n None) (own_place name unit n)

-- a unit is put into a list, and the places are those of the list behind that
pub record IsPut (c : Contents) (old : List StoredUnit) (unit : StoredUnit) (new : List StoredUnit)
    (places : List (Option ℕ)) : Type 0 where
  pub known : AreUnitsIn c new
  pub list : library_at c new ≡ put_unit (library_at c old) (unit_at c unit)
  pub places_are : ArePlaces c new places
