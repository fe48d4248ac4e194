-- What stands for a block once it is enlarged, by the numbers of a store: all its types, what is known of them, its auxiliary
-- types, and what their names stand for.
use Rattle.std.specs.Prelude.{◌≡◌, ℕ, List, [], ◌++◌, map}
use Rattle.lk_rulebook.specs.Place.{Block as PlainBlock}
use Rattle.lk_questions.specs.Program.{Table}
use Rattle.lk_questions.specs.Erased.{Out}
use Rattle.lk_store.specs.Contents.{Contents, tree_at}
use Rattle.lk_env.specs.declared.entry.Partial.TheVariants.{Members as AllMembers}
use Rattle.lk_env.specs.declared.unit.BlockType.{BlockType}
use Rattle.lk_env.specs.declared.unit.Recursor.{Recursor}
use Rattle.lk_env.specs.Scopes.{alone_members}
use Rattle.lk_env.specs.Units.{type_at, recursor_at}
use Rattle.lk_inductive.specs.Block.{levels_of}
use Rattle.lk_inductive.specs.BlockSteps.{TypeParts as PlainParts}
use Rattle.lk_inductive.specs.Compare.{compare_steps}
use Rattle.lk_inductive.specs.Enlarged.{Setting, Larger, larger_block}
use Rattle.lk_inductive.specs.Recursors.{recursors_by}
use Rattle.lk_inductive.specs.Restore.{first_name, all_stand}
use Rattle.lk_block.specs.declared.types.TypeParts.{TypeParts}
use Rattle.lk_block.specs.declared.shape.Shape.{Shape}
use Rattle.lk_block.specs.Parts.{parts_at}
use Rattle.lk_block.specs.Shapes.{shape_at}
use Rattle.lk_block.specs.Stages.{Places, stage, ends, larger_parts}
use Rattle.lk_block.specs.Wholes.{block_of}
use Rattle.lk_restore.specs.declared.originals.Original.{Original}
use Rattle.lk_restore.specs.Originals.{originals_at, restoring_at, AreOriginalsIn, AreStanding, AreReadOver}

-- so does a larger block stand for a block
pub record IsEnlargedTo (c : Contents) (b : PlainBlock) (ts : PlainParts) (lg : Larger) (us : List BlockType) (ps : TypeParts) (aux : List BlockType) (os : List Original) : Type 0 where
  pub types : map (type_at c) us ≡ lg.own ++ lg.aux
  pub parts : parts_at c ps ≡ larger_parts ts lg
  pub auxiliary : map (type_at c) aux ≡ lg.aux
  pub originals : originals_at c os ≡ all_stand (first_name b.types) 0 lg.auxs
  pub levels : levels_of (larger_block lg) ≡ levels_of b

-- the levels and the parameters at which terms of these types are read back
abbrev pub setting_here : Contents → List BlockType → List ℕ → Setting
setting_here c types parameters = record { names = []; levels = levels_of (block_of (map (type_at c) types)); params = map (tree_at c) parameters }

pub record AreReadAt (c : Contents) (types : List BlockType) (parameters : List ℕ) (os : List Original) : Type 0 where
  pub known : AreOriginalsIn c os
  pub standing : AreStanding c (setting_here c types parameters) os
  pub over : AreReadOver os (map (tree_at c) parameters)

-- the stated recursors against those of a shape, read back, where all members are given, and auxiliary types beside
abbrev pub read_stage : Contents → Table → Places → List BlockType → List Original → Shape → List Recursor → ℕ → Out
read_stage c table places aux os shape stated left =
    stage table places AllMembers (alone_members (map (type_at c) aux)) (compare_steps (recursors_by (restoring_at c os (shape_at c shape)) (shape_at c shape)) (map (recursor_at c) stated)) left ends
