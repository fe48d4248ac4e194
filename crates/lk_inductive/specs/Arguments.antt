-- Arguments that begin with given ones.
use Rattle.std.specs.Prelude.{List, [], ◌∷◌, Option, Some, None, if◌then◌else◌}
use Rattle.lk_tree.specs.Tree.{Tree}
use Rattle.lk_rulebook.specs.SameTree.{is_same_tree}

-- what is left of the arguments after these, where they begin with these
abbrev pub after_params : List Tree → List Tree → Option (List Tree)
after_params [] xs = Some xs
after_params (p ∷ ps) [] = None
after_params (p ∷ ps) (x ∷ xs) = if is_same_tree p x then after_params ps xs else None
