-- The name that a unit goes by, under its number.
use Rattle.std.proofs.Common.{◌≡◌, ℕ, ◌<◌, List, [], ◌∷◌, map, length, Some, None, refl, ap}
use Rattle.std.specs.Prelude.{All}
use Rattle.std.proofs.lemmas.List.Elements.{All-head}
use Rattle.lk_rulebook.specs.Units.{members_of, of_block}
use Rattle.lk_store.specs.Contents.{Contents, name_at}
use Rattle.lk_env.specs.declared.unit.BlockType.{BlockType}
use Rattle.lk_env.specs.declared.unit.Recursor.{Recursor}
use Rattle.lk_env.specs.declared.unit.Unit.{Unit as StoredUnit}
use Rattle.lk_env.specs.declared.unit.Unit.TheVariants as unit
use Rattle.lk_env.specs.Units.{type_at, recursor_at, IsTypeIn, IsRecursorIn, IsUnitIn}
use Rattle.lk_text.specs.Text.{name_text, first_name}
use Rattle.lk_text.specs.Names.{first_of_block, first_number, unit_text}

block_named : (c : Contents) (ts : List BlockType) (rs : List Recursor) (n : ℕ) → first_of_block ts rs ≡ Some n
    → first_name (members_of (of_block (record { types = map (type_at c) ts }) (map (recursor_at c) rs))) ≡ name_at c n
block_named c (t ∷ ts) rs n e = let is : t.name ≡ n = cc in ap (name_at c) is
block_named c [] (r ∷ rs) n e = let is : r.name ≡ n = cc in ap (name_at c) is
block_named c [] [] n e = absurd (cc)

block_unnamed : (c : Contents) (ts : List BlockType) (rs : List Recursor) → first_of_block ts rs ≡ None
    → first_name (members_of (of_block (record { types = map (type_at c) ts }) (map (recursor_at c) rs))) ≡ []
block_unnamed c (t ∷ ts) rs e = absurd (cc)
block_unnamed c [] (r ∷ rs) e = absurd (cc)
block_unnamed c [] [] e = refl

pub named : (c : Contents) (u : StoredUnit) (n : ℕ) → first_number u ≡ Some n → unit_text c u ≡ name_text (name_at c n)
named c (unit.Declaration d) n e = let is : d.name ≡ n = cc in ap (λ i. name_text (name_at c i)) is
named c (unit.Block b) n e = ap name_text (block_named c b.types.items b.recursors.value.items n e)

pub unnamed : (c : Contents) (u : StoredUnit) → first_number u ≡ None → unit_text c u ≡ name_text []
unnamed c (unit.Declaration d) e = absurd (cc)
unnamed c (unit.Block b) e = ap name_text (block_unnamed c b.types.items b.recursors.value.items e)

block_known : (c : Contents) (ts : List BlockType) (rs : List Recursor) (n : ℕ) → All (IsTypeIn c) ts → All (IsRecursorIn c) rs → first_of_block ts rs ≡ Some n → n < length c.names
block_known c (t ∷ ts) rs n h k e = let is : t.name ≡ n = cc in let known = (All-head (IsTypeIn c) t ts h).stated.name_in in rw (← is) known
block_known c [] (r ∷ rs) n h k e = let is : r.name ≡ n = cc in let known = (All-head (IsRecursorIn c) r rs k).stated.name_in in rw (← is) known
block_known c [] [] n h k e = absurd (cc)

pub name_known : (c : Contents) (u : StoredUnit) (n : ℕ) → IsUnitIn c u → first_number u ≡ Some n → n < length c.names
name_known c (unit.Declaration d) n h e = let is : d.name ≡ n = cc in rw (← is) h.0.name_in
name_known c (unit.Block b) n h e = block_known c b.types.items b.recursors.value.items n h.0 h.1 e
