-- Pis over a type.
use Rattle.std.specs.Prelude.{List, [], ◌∷◌}
use Rattle.lk_tree.specs.Tree.{Tree, pi}

-- Pis with these domains over T, the first one outermost
abbrev pub pis_over : List Tree → Tree → Tree
pis_over [] T = T
pis_over (A ∷ As) T = pi A (pis_over As T)
