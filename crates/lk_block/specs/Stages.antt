-- The check of a block stage by stage: what each stage comes to with all that follow it. `places` tells what names mean, by what
-- is partial of the block, and by the auxiliary types that are partial too.
use Rattle.std.specs.Prelude.{ℕ, true, List, [], ◌++◌, None}
use Rattle.lk_rulebook.specs.Place.{Place, Block, BlockRecursor}
use Rattle.lk_rulebook.specs.Units.{Members}
use Rattle.lk_questions.specs.Program.{Program, Table}
use Rattle.lk_questions.specs.Erased.{truth, Out, finished, out_of}
use Rattle.lk_env.specs.declared.entry.Partial.{Partial}
use Rattle.lk_env.specs.declared.entry.Partial.TheVariants.{Nothing, Types, Members as AllMembers}
use Rattle.lk_inductive.specs.Block.{parameters_of, Shape}
use Rattle.lk_inductive.specs.BlockSteps.{TypeParts, counts_steps, types_steps, all_ctor_sorts, shape_steps}
use Rattle.lk_inductive.specs.Compare.{compare_steps}
use Rattle.lk_inductive.specs.Enlarged.{Larger, larger_block, setting_of, bare_entries}
use Rattle.lk_inductive.specs.Nested.{enlarge, aux_sorts, aux_indices}
use Rattle.lk_inductive.specs.Recursors.{recursors_by}
use Rattle.lk_inductive.specs.Restore.{restoring_of}
use Rattle.lk_declaration.specs.Courses.{run_then}

abbrev pub Places : Type 0
Places = Partial → Members → Place

-- a program where so much is partial, and what comes next
abbrev pub stage : {A : Type 0} → Table → Places → Partial → Members → Program A → ℕ → (A → ℕ → Out) → Out
stage table places partial aux p left k = run_then (out_of table (places partial aux)) (places partial aux) p left k

abbrev pub ends : {A : Type 0} → A → ℕ → Out
ends v left = finished (truth true) left None

-- what was found of the block's types, and the indices of the auxiliary ones
abbrev pub larger_parts : TypeParts → Larger → TypeParts
larger_parts ts lg = record ts { indices = ts.indices ++ aux_indices lg.auxs }

-- the stated recursors against those of the shape, read back
abbrev pub recursors_stage : Table → Places → Block → List BlockRecursor → TypeParts → Larger → Shape → ℕ → Out
recursors_stage table places b stated ts lg s left =
    stage table places AllMembers (bare_entries lg.aux) (compare_steps (recursors_by (restoring_of b (setting_of b ts.params) lg) s) stated) left ends

-- constructors and large elimination, of the larger block
abbrev pub shape_stage : Table → Places → ℕ → Block → List BlockRecursor → TypeParts → Larger → ℕ → Out
shape_stage table places fuel b stated ts lg left =
    stage table places Types (bare_entries lg.aux) (shape_steps fuel (larger_block lg) (larger_parts ts lg)) left (recursors_stage table places b stated ts lg)

-- the sorts of the auxiliary types
abbrev pub auxiliary_stage : Table → Places → ℕ → Block → List BlockRecursor → TypeParts → Larger → ℕ → Out
auxiliary_stage table places fuel b stated ts lg left = stage table places Types [] (aux_sorts ts.sort lg.auxs) left (λ y rest. shape_stage table places fuel b stated ts lg rest)

-- the larger block
abbrev pub larger_stage : Table → Places → ℕ → Block → List BlockRecursor → TypeParts → ℕ → Out
larger_stage table places fuel b stated ts left = stage table places Types [] (enlarge (setting_of b ts.params) b.types) left (auxiliary_stage table places fuel b stated ts)

-- the sorts of the constructors' types
abbrev pub sorts_stage : Table → Places → ℕ → Block → List BlockRecursor → TypeParts → ℕ → Out
sorts_stage table places fuel b stated ts left = stage table places Types [] (all_ctor_sorts b.types) left (λ ls rest. larger_stage table places fuel b stated ts rest)

-- the types
abbrev pub types_stage : Table → Places → ℕ → Block → List BlockRecursor → ℕ → Out
types_stage table places fuel b stated left = stage table places Nothing [] (types_steps (parameters_of b) b.types) left (sorts_stage table places fuel b stated)

-- the whole check; the number is above the budget
abbrev pub block_stages : Table → Places → ℕ → Block → List BlockRecursor → ℕ → Out
block_stages table places fuel b stated left = stage table places Nothing [] (counts_steps b) left (λ y rest. types_stage table places fuel b stated rest)
