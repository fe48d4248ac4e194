-- The end of an auxiliary type.
use Rattle.std.specs.Prelude.{ℕ, List}
use Rattle.lk_tree.specs.Tree.{Level, Tree}
use Rattle.lk_questions.specs.Program.{Program, done, ◌>>=◌}
use Rattle.lk_inductive.specs.BlockSteps.{as_level}
use Rattle.lk_inductive.specs.Nested.{stated_pis}

-- its indices and the level of its Sort
abbrev pub end_form : ℕ → ℕ → Tree → Program (List Tree × Level)
end_form j n r = stated_pis j n r >>= λ x. as_level x.1 >>= λ l. done (x.0, l)
