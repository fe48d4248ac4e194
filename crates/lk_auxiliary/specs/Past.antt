-- One Pi at the head of a type.
use Rattle.std.specs.Prelude.{ℕ}
use Rattle.lk_tree.specs.Tree.{Tree, pi, local}
use Rattle.lk_tree.specs.Bind.{opened}
use Rattle.lk_tree.specs.declared.rule.Rule.TheVariants.{BlockShape}
use Rattle.lk_questions.specs.Program.{Program, done, refuse}

-- x is put for its variable
abbrev pub past_pi : Tree → Tree → Program Tree
past_pi x (pi A B) = done (opened B x)
past_pi x _ = refuse BlockShape

-- the Local of number j is
abbrev pub stated_pi : ℕ → Tree → Program (Tree × Tree)
stated_pi j (pi A B) = done (local j A, opened B (local j A))
stated_pi j _ = refuse BlockShape
