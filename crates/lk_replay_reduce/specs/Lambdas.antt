-- What is under leading lambdas.
use Rattle.std.specs.Prelude.{ℕ, suc}
use Rattle.lk_tree.specs.Tree.{Tree, lam}

-- the body under the first n lambdas, where there are so many
abbrev pub under : ℕ → Tree → Tree
under (suc n) (lam A b) = under n b
under _ h = h
