-- An index over names: for each number of a name a cell, which has the name's place.
use Rattle.std.specs.Prelude.{◌≡◌, ℕ, ◌<◌, ◌≤◌, nat_eq, List, [], ◌∷◌, ◌++◌, length, map, drop, Vec, Option, None, option_map, slice_index_or}
use Rattle.std.specs.List.{flat_map, position_from}
use Rattle.std.specs.declared.alloc.Global.{Global}
use Rattle.lk_store.specs.Contents.{Contents, name_at}
use Rattle.lk_env.specs.declared.position.Position.{Position}
use Rattle.lk_env.specs.declared.unit.Constructor.{Constructor}
use Rattle.lk_env.specs.declared.unit.BlockType.{BlockType}
use Rattle.lk_env.specs.declared.unit.Recursor.{Recursor}
use Rattle.lk_env.specs.declared.unit.Unit.{Unit as StoredUnit}
use Rattle.lk_env.specs.declared.unit.Unit.TheVariants as unit
use Rattle.lk_env.specs.Units.{library_at}
use Rattle.lk_env.specs.Places.{first_place, at_member, position_in}

abbrev pub constructor_names : BlockType → List ℕ
constructor_names t = map (λ (k : Constructor). k.name) t.constructors.items

-- the numbers of the names of a unit's members, in their order
abbrev pub member_names : StoredUnit → List ℕ
member_names (unit.Declaration d) = d.name ∷ []
member_names (unit.Block b) = map (λ (t : BlockType). t.name) b.types.items ++ (flat_map constructor_names b.types.items ++ map (λ (r : Recursor). r.name) b.recursors.value.items)

abbrev pub pair_of : Position → ℕ × ℕ
pair_of p = (p.unit, p.member)

-- what the cell of a number says
abbrev pub cell_at : List (Option Position) → ℕ → Option (ℕ × ℕ)
cell_at cells n = option_map pair_of (slice_index_or cells n None)

-- each cell that was empty has the first member of its number, where a member has it
abbrev pub AreNoted : ℕ → List ℕ → List (Option Position) → List (Option Position) → Type 0
AreNoted unit names old new = (n : ℕ) → n < length old → cell_at new n ≡ first_place (cell_at old n) (at_member unit (position_from (λ m. nat_eq m n) 0 names))

pub record IsIndex (c : Contents) (us : List StoredUnit) (cells : List (Option Position)) : Type 0 where
  pub one_each : length cells ≡ length c.names
  pub right : (n : ℕ) → n < length c.names → cell_at cells n ≡ position_in 0 (library_at c us) (name_at c n)

-- Cells of the first names of a store, which tell where each name is given: a name behind the last
-- cell is given nowhere.
pub record AreCells (c : Contents) (us : List StoredUnit) (cells : List (Option Position)) : Type 0 where
  pub within : length cells ≤ length c.names
  pub right : (n : ℕ) → n < length c.names → cell_at cells n ≡ position_in 0 (library_at c us) (name_at c n)

-- the index over the first i units
pub record IsIndexUpTo (c : Contents) (us : List StoredUnit) (i : ℕ) (cells : List (Option Position)) : Type 0 where
  pub one_each : length cells ≡ length c.names
  pub right : (n : ℕ) → n < length c.names → first_place (cell_at cells n) (position_in i (library_at c (drop i us)) (name_at c n)) ≡ position_in 0 (library_at c us) (name_at c n)

-- the lists of numbers are those of the names of these units
abbrev pub AreNames : List (Vec ℕ Global) → List StoredUnit → Type 0
AreNames names us = map (λ (v : Vec ℕ Global). v.items) names ≡ map member_names us
