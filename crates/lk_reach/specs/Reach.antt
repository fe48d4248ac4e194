-- Units that a unit reaches by the names that its trees mention.
use Rattle.std.specs.Prelude.{ℕ, ◌≡◌, true, ◌⊎◌, [], ◌∷◌, take, slice_get, Some}
use Rattle.lk_tree.specs.Tree.{Name}
use Rattle.lk_tree.specs.Mentions.{mentions}
use Rattle.lk_rulebook.specs.Units.{LibraryUnit, Library, Trees, trees_of, Found, first_giving}

-- one of the trees mentions the name, as a constant or as the type of a projection
abbrev pub TreesMention : Name → Trees → Type 0
TreesMention c [] = ⊥
TreesMention c (e ∷ es) = (mentions (c ∷ []) e.1 ≡ true) ⊎ TreesMention c es

-- a tree of unit n mentions a name that before n unit m is the first to give
pub record Mentions (us : Library) (n m : ℕ) : Type 0 where
  pub unit : LibraryUnit
  pub stands : slice_get us n ≡ Some unit
  pub name : Name
  pub has : TreesMention name (trees_of unit)
  pub found : Found
  pub given : first_giving 0 (take n us) name ≡ Some found
  pub is_from : found.unit ≡ m

-- in any number of steps, none included
pub data Reaches (us : Library) : ℕ → ℕ → Type 0 where
  itself : {n : ℕ} → Reaches us n n
  through : {n m k : ℕ} → Mentions us n m → Reaches us m k → Reaches us n k
