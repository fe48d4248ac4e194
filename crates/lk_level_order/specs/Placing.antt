-- Levels that are placed after their parts.
use Rattle.std.specs.Prelude.{◌≡◌, ℕ, ◌<◌, List, [], map, All, length, slice_index_or}
use Rattle.lk_tree.specs.Tree.{Level}
use Rattle.lk_store.specs.Contents.{Contents, level_at, level_of, IsLevelIn}
use Rattle.lk_level_order.specs.declared.placing.PlacedLevel.{PlacedLevel}
use Rattle.lk_level_order.specs.declared.parameters.Parameter.{Parameter}
use Rattle.lk_level_order.specs.Parameters.{AreDifferent, names_of}

abbrev pub levels_of : Contents → List PlacedLevel → List Level
levels_of c parts = map (λ p. level_at c p.level) parts

-- the contents of a store of just these parameters and levels
abbrev pub gathered : Contents → List Parameter → List PlacedLevel → Contents
gathered c names parts =
    record {
      names = names_of c names;
      texts = [];
      levels = levels_of c parts;
      lists = [];
      trees = [];
    }

-- the level at this place
abbrev pub IsPlaceOf : ℕ → List PlacedLevel → ℕ → Type 0
IsPlaceOf level parts i =
    (i < length parts) × ((d : PlacedLevel) → (slice_index_or parts i d).level ≡ level)

-- the node is the level's, and its parts are placed
abbrev pub IsPlaced : Contents → Contents → PlacedLevel → Type 0
IsPlaced c d p = IsLevelIn d p.node × (level_of d p.node ≡ level_at c p.level)

abbrev pub ArePlaced : Contents → List Parameter → List PlacedLevel → Type 0
ArePlaced c names parts = All (λ (p : PlacedLevel). IsPlaced c (gathered c names parts) p) parts

-- each node makes the level at its place, of the levels and the names, of which none stands twice
pub record IsOrder (d : Contents) (parts : List PlacedLevel) : Type 0 where
  pub different : AreDifferent d.names
  pub count : length d.levels ≡ length parts
  pub nodes : (k : ℕ) (e : PlacedLevel) → k < length parts
      → level_of d (slice_index_or parts k e).node ≡ level_at d k
