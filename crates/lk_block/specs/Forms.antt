-- Pieces of the programs of a block, as the code asks them.
use Rattle.std.specs.Prelude.{ℕ, List, length}
use Rattle.lk_tree.specs.Tree.{Level, Tree, local}
use Rattle.lk_tree.specs.Bind.{opened}
use Rattle.lk_tree.specs.LevelTest.{level_test}
use Rattle.lk_tree.specs.declared.rule.Rule.TheVariants.{BlockShape, ParameterDiffers}
use Rattle.lk_questions.specs.Query.{whnf, same}
use Rattle.lk_questions.specs.Program.{Program, done, asked, ◌>>=◌}
use Rattle.lk_questions.specs.Steps.{given, as_pi, sort_of}
use Rattle.lk_questions.specs.Levels.{tested}
use Rattle.lk_inductive.specs.Block.{domain}
use Rattle.lk_inductive.specs.BlockSteps.{as_level, over, type_end}

-- the domain and the body of the weak head form, which is to be a Pi
abbrev pub pi_form : Tree → Program (Tree × Tree)
pi_form r = asked (whnf r) >>= λ R. as_pi BlockShape R

-- the Local number j for the Pi, and what is left, opened with it
abbrev pub local_form : ℕ → Tree → Program (Tree × Tree)
local_form j r = pi_form r >>= λ p. done (local j p.0, opened p.1 (local j p.0))

-- the body with the Local put in, whose type the domain is to be
abbrev pub put_form : Tree → Tree → Tree → Program Tree
put_form P A B = asked (same A (domain P)) >>= λ equal. given equal ParameterDiffers (done (opened B P))

-- what is left once the Local is put in, whose type the Pi's domain is to be
abbrev pub over_form : Tree → Tree → Program Tree
over_form P r = pi_form r >>= λ p. put_form P p.0 p.1

-- the level of the sort that the end of a type of the block is to be
abbrev pub level_form : Tree → Program Level
level_form r = asked (whnf r) >>= λ S. as_level S

-- the end of a type, whose level is to be this one: its indices
abbrev pub end_form : ℕ → ℕ → Level → Tree → Program (List Tree)
end_form j n l r = type_end j n r >>= λ e. tested (level_test e.1 l) >>= λ equal. given equal BlockShape (done e.0)

-- a type after the first one, by its type and its number of indices
abbrev pub next_form : List Tree → Level → ℕ → Tree → Program (List Tree)
next_form ps l n T = sort_of T >>= λ s. over ps T >>= λ r. end_form (length ps) n l r
