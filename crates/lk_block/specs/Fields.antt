-- The fields of a constructor, as the code asks them.
use Rattle.std.specs.Prelude.{ℕ, suc}
use Rattle.lk_tree.specs.Tree.{Tree, local}
use Rattle.lk_tree.specs.Bind.{opened}
use Rattle.lk_tree.specs.declared.rule.Rule.TheVariants.{FieldUniverse}
use Rattle.lk_questions.specs.Program.{Program, done, ◌>>=◌}
use Rattle.lk_questions.specs.Steps.{given}
use Rattle.lk_inductive.specs.Block.{Frame, FieldKind, Field}
use Rattle.lk_inductive.specs.BlockSteps.{fits_in, walk}
use Rattle.lk_block.specs.Forms.{pi_form}

-- the kind of a field by its type, which is to fit in the universe of the block
abbrev pub kind_form : ℕ → Frame → ℕ → Tree → Program FieldKind
kind_form fuel F j A = fits_in F.sort A >>= λ allowed. given allowed FieldUniverse (walk fuel F j A)

-- the field that the Local number j stands for
abbrev pub field_form : ℕ → Frame → ℕ → Tree → Tree → Program Field
field_form fuel F j A L = kind_form fuel F (suc j) A >>= λ k. done (record { variable = L; kind = k })

-- the field of the Pi, and what is left, opened with its Local
abbrev pub next_field : ℕ → Frame → ℕ → Tree → Program (Field × Tree)
next_field fuel F j r = pi_form r >>= λ p. field_form fuel F j p.0 (local j p.0) >>= λ f. done (f, opened p.1 (local j p.0))
