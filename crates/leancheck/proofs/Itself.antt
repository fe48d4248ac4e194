-- A block without nested occurrences stands for itself once it is enlarged.
use Rattle.std.proofs.Common.{ℕ, List, [], map, refl, ap, sym}
use Rattle.std.proofs.lemmas.List.{append-nil}
use Rattle.std.proofs.lemmas.List.Elements.{All-nil}
use Rattle.lk_store.specs.Contents.{Contents}
use Rattle.lk_env.specs.declared.unit.BlockType.{BlockType}
use Rattle.lk_env.specs.Units.{type_at}
use Rattle.lk_inductive.specs.Block.{levels_of}
use Rattle.lk_inductive.proofs.NothingNested.{nothing_added, larger_itself, indices_stay}
use Rattle.lk_block.specs.declared.types.TypeParts.{TypeParts}
use Rattle.lk_block.specs.Parts.{parts_at}
use Rattle.lk_block.specs.Wholes.{block_of}
use Rattle.lk_restore.specs.Originals.{IsOriginalIn, IsStanding}
use Rattle.leancheck.specs.Larger.{setting_here, AreReadAt, IsEnlargedTo}

-- nothing stands for anything
pub none_read : (c : Contents) (types : List BlockType) (parameters : List ℕ) → AreReadAt c types parameters []
none_read c types parameters = record { known = All-nil (IsOriginalIn c); standing = All-nil (IsStanding c (setting_here c types parameters)); over = tt }

pub enlarged_itself : (c : Contents) (types : List BlockType) (parts : TypeParts) → IsEnlargedTo c (block_of (map (type_at c) types)) (parts_at c parts) (nothing_added (map (type_at c) types)) types parts [] []
enlarged_itself c types parts = record {
  types = sym (append-nil (map (type_at c) types));
  parts = sym (indices_stay (parts_at c parts));
  auxiliary = refl;
  originals = refl;
  levels = ap levels_of (larger_itself (block_of (map (type_at c) types)));
}
