-- What one type of a block states.
use Rattle.std.specs.Prelude.{ℕ, Bool, ◌&&◌, nat_eq, List}
use Rattle.lk_tree.specs.Tree.{Name}
use Rattle.lk_rulebook.specs.Place.{BlockType}
use Rattle.lk_inductive.specs.BlockSteps.{same_names, ctors_agree}

-- a type of the block and its constructors
abbrev pub type_agrees : ℕ → List Name → BlockType → Bool
type_agrees p us t = (same_names t.levels us && nat_eq t.parameters p) && ctors_agree p us t.name 0 t.ctors
