-- The block of a type, copied, is that of what its name means.
use Rattle.std.proofs.Common.{◌≡◌, List, Option, Some, None, Ok, map, refl, sym, ◌∙◌}
use Rattle.std.specs.Prelude.{IsSome}
use Rattle.lk_tree.specs.Tree.{Name}
use Rattle.lk_rulebook.specs.Place.{Place, Entry as PlainEntry}
use Rattle.lk_store.specs.Contents.{Contents, Extends}
use Rattle.lk_env.specs.declared.entry.Entry.{Entry}
use Rattle.lk_env.specs.declared.unit.Block.{Block}
use Rattle.lk_env.specs.declared.unit.BlockType.{BlockType}
use Rattle.lk_env.specs.declared.unit.Unit.{Unit as StoredUnit}
use Rattle.lk_env.specs.Units.{block_at, type_at}
use Rattle.lk_env.specs.Entries.{plain_entry, IsMeaning}
use Rattle.lk_env.specs.Lent.{type_in, IsBlockTypeIn}
use Rattle.lk_env.proofs.Stays.{type_stays, types_stay}
use Rattle.lk_family.specs.declared.family.Family.{Family}
use Rattle.lk_family.specs.Families.{HasFamily}

module _ (c d : Contents) (grown : Extends c d) (us : List StoredUnit) (w : Place) (x : Name) (e : Entry) (m : IsMeaning c us w x e) where
  -- the entry that the name means
  meant : (y : PlainEntry) × (w.means x ≡ Some y) × (plain_entry c us e ≡ Some y)
  meant = go (w.means x) refl m.given
    where
      go : (o : Option PlainEntry) → w.means x ≡ o → IsSome o → (y : PlainEntry) × (w.means x ≡ Some y) × (plain_entry c us e ≡ Some y)
      go None h s = absurd cc
      go (Some y) h s = (y, h, sym m.means ∙ h)

  pub no_family : ((y : PlainEntry) → plain_entry c us e ≡ Some y → type_in y.kind ≡ None) → HasFamily w x d (Ok None)
  no_family is = (meant.0, meant.1, is meant.0 meant.2)

  pub family_is : (b : Block) (t : BlockType) → IsBlockTypeIn c b t → ((y : PlainEntry) → plain_entry c us e ≡ Some y → type_in y.kind ≡ Some (block_at c b, type_at c t))
      → (f : Family) → type_at d f.own ≡ type_at d t → map (type_at d) f.types.items ≡ map (type_at d) b.types.items → HasFamily w x d (Ok (Some f))
  family_is b t known is f own types =
      let one : type_at c t ≡ type_at d f.own = sym (type_stays c d grown t known.type_in) ∙ sym own in
      let all : map (type_at c) b.types.items ≡ map (type_at d) f.types.items = sym (types_stay c d grown b.types.items known.block_in) ∙ sym types in
      (meant.0, meant.1, is meant.0 meant.2 ∙ rw (one, all) refl)
