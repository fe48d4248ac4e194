-- The whole check of a block, in its order: counts, types, sorts of the constructors' types, nested occurrences, constructors,
-- large elimination, recursors.
use Rattle.std.specs.Prelude.{ℕ, suc, List, [], ◌++◌}
use Rattle.lk_rulebook.specs.Place.{Block}
use Rattle.lk_rulebook.specs.Units.{Members, Library, place_of}
use Rattle.lk_questions.specs.Answer.{Outcome, plain_answer}
use Rattle.lk_questions.specs.Program.{Table}
use Rattle.lk_inductive.specs.Block.{parameters_of, Shape}
use Rattle.lk_inductive.specs.BlockSteps.{TypeParts, counts_steps, types_steps, all_ctor_sorts, shape_steps}
use Rattle.lk_inductive.specs.Recursors.{BlockRecursor, recursors_by}
use Rattle.lk_inductive.specs.Compare.{compare_steps}
use Rattle.lk_inductive.specs.Nested.{Setting, Larger, larger_block, enlarge, aux_sorts, aux_indices, bare_entries}
use Rattle.lk_inductive.specs.Whole.{partial_types, partial_members}
pub use Rattle.lk_inductive.specs.Enlarged.{setting_of}
pub use Rattle.lk_inductive.specs.Restore.{restoring_of}
use Rattle.lk_inductive.specs.Task.{Task, done_with, here, give_partial, ◌>>=◌, run_task}

-- the recursors
abbrev pub nested_recs : Block → List BlockRecursor → Setting → Larger → Shape → Task Shape
nested_recs b stated s lg shape = do
  h ← give_partial (partial_members b stated)
  y ← here (compare_steps (recursors_by (restoring_of b s lg) shape) stated)
  done_with shape

-- constructors, large elimination, recursors
abbrev pub nested_shape : ℕ → Block → List BlockRecursor → TypeParts → Larger → Task Shape
nested_shape fuel b stated ts lg = do
  k ← give_partial (bare_entries lg.aux)
  shape ← here (shape_steps fuel (larger_block lg) (record ts { indices = ts.indices ++ aux_indices lg.auxs }))
  nested_recs b stated (setting_of b ts.params) lg shape

-- the number is above the budget
abbrev pub whole_task : ℕ → Block → List BlockRecursor → Task Shape
whole_task fuel b stated = do
  y ← here (counts_steps b)
  ts ← here (types_steps (parameters_of b) b.types)
  h ← give_partial (partial_types b)
  ls ← here (all_ctor_sorts b.types)
  lg ← here (enlarge (setting_of b ts.params) b.types)
  z ← here (aux_sorts ts.sort lg.auxs)
  nested_shape fuel b stated ts lg

-- the plain verdict of unit n, a block that has passed the scans, by this table
abbrev pub plain_whole : Table → Library → ℕ → Block → List BlockRecursor → ℕ → Outcome (Shape × Members)
plain_whole table us n b stated budget = run_task (place_of us n) (λ w. plain_answer table w) [] budget (whole_task (suc budget) b stated)
