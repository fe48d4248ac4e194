-- The names of a block's types.
use Rattle.std.proofs.Common.{◌≡◌, ◌<◌, ℕ, List, [], ◌∷◌, length, map, All, refl, ap, subst, sym, arith}
use Rattle.std.proofs.lemmas.List.Elements.{All-nil, All-cons, All-head, All-tail, All-weaker}
use Rattle.lk_rulebook.specs.Place.{type_names}
use Rattle.lk_store.specs.Contents.{Contents, name_at, Extends}
use Rattle.lk_env.specs.declared.unit.BlockType.{BlockType}
use Rattle.lk_env.specs.Units.{type_at, IsTypeIn}

abbrev pub numbers_of : List BlockType → List ℕ
numbers_of ts = map (λ (t : BlockType). t.name) ts

pub names_are : (c : Contents) (ts : List BlockType) → map (name_at c) (numbers_of ts) ≡ type_names (map (type_at c) ts)
names_are c [] = refl
names_are c (t ∷ ts) = ap (λ ns. name_at c t.name ∷ ns) (names_are c ts)

pub names_known : (c : Contents) (ts : List BlockType) → All (IsTypeIn c) ts → All (λ n. n < length c.names) (numbers_of ts)
names_known c [] h = All-nil (λ n. n < length c.names)
names_known c (t ∷ ts) h =
    let first = All-head (IsTypeIn c) t ts h in
    All-cons (λ n. n < length c.names) t.name (numbers_of ts) first.stated.name_in (names_known c ts (All-tail (IsTypeIn c) t ts h))

-- the same in a store that has grown
pub names_grown : (c d : Contents) → Extends c d → (ts : List BlockType) → All (IsTypeIn c) ts → (numbers : List ℕ) → numbers ≡ numbers_of ts → All (λ n. n < length d.names) numbers
names_grown c d x ts h numbers e =
    let l = x.names.longer in
    subst (All (λ n. n < length d.names)) (sym e) (All-weaker (λ n. n < length c.names) (λ n. n < length d.names) (λ n k. omega arith) (numbers_of ts) (names_known c ts h))
