-- Units have the same numbers just where they stand for the same.
use Rattle.std.proofs.Common.{◌≡◌, ap, ◌∙◌, Bool, List}
use Rattle.std.specs.Prelude.{map, IsTrue, ◌↔◌}
use Rattle.lk_rulebook.specs.Place.{BlockRecursor}
use Rattle.lk_rulebook.specs.Place.{BlockType as PlainType, Block as PlainBlock}
use Rattle.lk_rulebook.specs.Units.{LibraryUnit, of_decl, of_block}
use Rattle.lk_store.specs.Contents.{Contents}
use Rattle.lk_env.specs.declared.unit.Block.{Block}
use Rattle.lk_env.specs.declared.unit.Unit.{Unit as StoredUnit}
use Rattle.lk_env.specs.declared.unit.Unit.TheVariants as unit
use Rattle.lk_env.specs.Units.{declaration_at, type_at, recursor_at, block_at, unit_at}
use Rattle.lk_env.specs.Units.{IsUnitIn, IsTypeIn, IsRecursorIn}
use Rattle.lk_recheck.specs.Same.{SameType, SameRecursor, SameBlock, SameUnit, StandsOnce}
use Rattle.lk_recheck.proofs.Lists.{same_made, made_same}
use Rattle.lk_recheck.proofs.Parts.{declaration_made, made_declaration, type_made, made_type}
use Rattle.lk_recheck.proofs.Parts.{recursor_made, made_recursor}

abbrev block_unit : List PlainType → List BlockRecursor → LibraryUnit
block_unit ts rs = of_block (record { types = ts }) rs

module _ (c : Contents) where
  block_made : (a b : Block) → IsUnitIn c (unit.Block a) → IsUnitIn c (unit.Block b)
      → SameBlock a b → unit_at c (unit.Block a) ≡ unit_at c (unit.Block b)
  block_made a b h k s =
      let types : map (type_at c) a.types.items ≡ map (type_at c) b.types.items =
      same_made (type_at c) (IsTypeIn c) SameType (type_made c)
      a.types.items b.types.items h.0 k.0 s.types in
      let recursors : map (recursor_at c) a.recursors.value.items
      ≡ map (recursor_at c) b.recursors.value.items =
      same_made (recursor_at c) (IsRecursorIn c) SameRecursor (recursor_made c)
      a.recursors.value.items b.recursors.value.items h.1 k.1 s.recursors in
      ap (λ ts. block_unit ts (map (recursor_at c) a.recursors.value.items)) types
      ∙ ap (block_unit (map (type_at c) b.types.items)) recursors

  pub unit_made : (a b : StoredUnit) → IsUnitIn c a → IsUnitIn c b → SameUnit a b
      → unit_at c a ≡ unit_at c b
  unit_made (unit.Declaration a) (unit.Declaration b) h k s =
      ap of_decl (declaration_made c a b s)
  unit_made (unit.Block a) (unit.Block b) h k s = block_made a b h k s
  unit_made (unit.Declaration a) (unit.Block b) h k s = absurd s
  unit_made (unit.Block a) (unit.Declaration b) h k s = absurd s

module _ (c : Contents) (once : StandsOnce c) where
  made_block : (a b : Block) → IsUnitIn c (unit.Block a) → IsUnitIn c (unit.Block b)
      → unit_at c (unit.Block a) ≡ unit_at c (unit.Block b) → SameBlock a b
  made_block a b h k e =
      let blocks : block_at c a ≡ block_at c b = cc in
      let recursors : map (recursor_at c) a.recursors.value.items
      ≡ map (recursor_at c) b.recursors.value.items = cc in
      record {
        types = made_same (type_at c) (IsTypeIn c) SameType (made_type c once)
            a.types.items b.types.items h.0 k.0 (ap (λ (x : PlainBlock). x.types) blocks);
        recursors = made_same (recursor_at c) (IsRecursorIn c) SameRecursor
            (made_recursor c once) a.recursors.value.items b.recursors.value.items h.1 k.1
            recursors;
      }

  made_unit : (a b : StoredUnit) → IsUnitIn c a → IsUnitIn c b
      → unit_at c a ≡ unit_at c b → SameUnit a b
  made_unit (unit.Declaration a) (unit.Declaration b) h k e =
      let declarations : declaration_at c a ≡ declaration_at c b = cc in
      made_declaration c once a b h k declarations
  made_unit (unit.Block a) (unit.Block b) h k e = made_block a b h k e
  made_unit (unit.Declaration a) (unit.Block b) h k e = absurd cc
  made_unit (unit.Block a) (unit.Declaration b) h k e = absurd cc

  -- a test of the numbers is one of what they stand for
  pub tells_same : (a b : StoredUnit) (r : Bool) → (IsTrue r ↔ SameUnit a b)
      → IsUnitIn c a → IsUnitIn c b → IsTrue r ↔ (unit_at c a ≡ unit_at c b)
  tells_same a b r test h k =
      (λ t. unit_made c a b h k (test.0 t), λ e. test.1 (made_unit a b h k e))
