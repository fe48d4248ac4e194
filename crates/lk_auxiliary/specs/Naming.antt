-- Names that begin with a text and a number.
use Rattle.std.specs.Prelude.{ℕ, List, [], ◌∷◌}
use Rattle.lk_tree.specs.Tree.{Name, Part}

abbrev pub marked : List ℕ → ℕ → Name
marked bytes i = Part.text bytes ∷ Part.number i ∷ []
