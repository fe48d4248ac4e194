-- The value of an operation, as a term.
use Rattle.std.specs.Prelude.{ℕ, ◌<◌, Option, option_map, IfOk, IfSome, Result}
use Rattle.lk_tree.specs.Tree.{Tree}
use Rattle.lk_tree.specs.Operations.{Value}
use Rattle.lk_tree.specs.declared.rule.Rule.{Rule}
use Rattle.lk_questions.specs.Program.{Program, ◌>>=◌}
use Rattle.lk_questions.specs.Shapes.{nat_shape}
use Rattle.lk_questions.specs.Literals.{result_of}
use Rattle.lk_store.specs.Contents.{Contents, tree_at}

-- what a number stands for, where there is one
abbrev pub tree_if : Contents → Option ℕ → Option Tree
tree_if c = option_map (tree_at c)

-- the number, where there is one, is below n
abbrev pub IsKnownTerm : ℕ → Result (Option ℕ) Rule → Type 0
IsKnownTerm n r = IfOk r (λ o. IfSome o (λ e. e < n))

-- this value as a term, where Nat has its shape
abbrev pub value_program : Option Value → Program (Option Tree)
value_program o = nat_shape >>= λ u. result_of o
