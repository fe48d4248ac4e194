-- A block by its types alone, and its constructors and large elimination as the code asks them.
use Rattle.std.specs.Prelude.{ℕ, Bool, List}
use Rattle.lk_tree.specs.Tree.{Level, Tree}
use Rattle.lk_rulebook.specs.Place.{Block, BlockType}
use Rattle.lk_questions.specs.Program.{Program, done, ◌>>=◌}
use Rattle.lk_inductive.specs.Block.{levels_of, frame_of, TypeShape, Shape}
use Rattle.lk_inductive.specs.BlockSteps.{shapes_steps, large_steps}

abbrev pub block_of : List BlockType → Block
block_of ts = record { types = ts }

-- the constructors of a block with these parameters, this level and these indices
abbrev pub shapes_form : ℕ → List BlockType → List Tree → Level → List (List Tree) → Program (List TypeShape)
shapes_form fuel ts ps l is = shapes_steps fuel (frame_of (block_of ts) ps l) ts is

abbrev pub shape_with : List BlockType → List Tree → Level → List TypeShape → Bool → Shape
shape_with ts ps l ss large = record { levels = levels_of (block_of ts); params = ps; sort = l; types = ss; large = large }

-- large elimination, and the shape
abbrev pub large_form : List BlockType → List Tree → Level → List TypeShape → Program Shape
large_form ts ps l ss = large_steps l ss >>= λ large. done (shape_with ts ps l ss large)
