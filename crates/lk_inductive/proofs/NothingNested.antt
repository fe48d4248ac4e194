-- A block to which nothing is added: it is itself the larger block, and its recursors are read back as they are.
use Rattle.std.proofs.Common.{◌≡◌, List, [], ◌++◌, ap}
use Rattle.std.proofs.lemmas.List.{append-nil}
use Rattle.lk_rulebook.specs.Place.{Block, BlockType}
use Rattle.lk_inductive.specs.Block.{Shape}
use Rattle.lk_inductive.specs.BlockSteps.{TypeParts}
use Rattle.lk_inductive.specs.Recursors.{minors, recursors, recursors_by}
use Rattle.lk_inductive.specs.Nested.{Setting, Larger, larger_block, aux_indices}
use Rattle.lk_inductive.specs.Restore.{restoring_of}
use Rattle.lk_inductive.proofs.ReadBack.{same_recs}

-- the larger block that adds nothing
abbrev pub nothing_added : List BlockType → Larger
nothing_added ts = record { own = ts; aux = []; auxs = [] }

pub larger_itself : (b : Block) → larger_block (nothing_added b.types) ≡ b
larger_itself b = ap (λ us. record { types = us }) (append-nil b.types)

pub indices_stay : (ts : TypeParts) → record ts { indices = ts.indices ++ aux_indices [] } ≡ ts
indices_stay ts = ap (λ xs. record ts { indices = xs }) (append-nil ts.indices)

pub recursors_stay : (b : Block) (s : Setting) (shape : Shape) → recursors_by (restoring_of b s (nothing_added b.types)) shape ≡ recursors shape
recursors_stay b s shape = same_recs shape s (minors shape) shape.types
