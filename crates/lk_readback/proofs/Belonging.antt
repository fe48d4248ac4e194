-- Lines that belong to the block of these types, and those that name none of them.
use Rattle.std.proofs.Common.{◌≡◌, ℕ, suc, true, false, List, [], ◌∷◌, ◌++◌, Some, refl, ap, ◌∙◌}
use Rattle.std.proofs.Common.{arith}
use Rattle.std.specs.Prelude.{◌≢◌, slice_get}
use Rattle.std.specs.List.{AllByRecursion}
use Rattle.std.proofs.lemmas.List.Elements.{recursion_from_All}
use Rattle.lk_tree.specs.Tree.{Name}
use Rattle.lk_tree.specs.Mentions.{same_name}
use Rattle.lk_rulebook.specs.Place.{Ctor, BlockType, type_names, BlockRecursor}
use Rattle.lk_rulebook.specs.Units.{LibraryUnit, of_decl, of_block, Library}
use Rattle.lk_members.specs.Lines.{alone, a_type, a_ctor, a_recursor, has}
use Rattle.lk_members.specs.Plain.{PlainMember}
use Rattle.lk_readback.specs.Statable.{IsType, IsCtor, IsUnit, types_of, AreStatable}
use Rattle.lk_readback.specs.Stated.{type_members, ctor_members, all_ctor_members}
use Rattle.lk_readback.specs.Stated.{rec_members, stated_of}
use Rattle.lk_readback.proofs.Listed.{has_first, has_later, differs, each_append}

-- the line is of the block of these types
abbrev pub IsOf : List Name → PlainMember → Type 0
IsOf family (alone d) = Unit {0}
IsOf family (a_type n ts cs t) = (ts ≡ family) × (has same_name family n ≡ true)
IsOf family (a_ctor p n c) = has same_name family p ≡ true
IsOf family (a_recursor ts n r) = (ts ≡ family) × ((x : Name) × (has same_name family x ≡ true))

-- the line says nothing of this type, nor of its block
abbrev pub IsSilent : Name → PlainMember → Type 0
IsSilent x (alone d) = Unit {0}
IsSilent x (a_type n ts cs t) = (same_name n x ≡ false) × (has same_name ts x ≡ false)
IsSilent x (a_ctor p n c) = same_name p x ≡ false
IsSilent x (a_recursor ts n r) = has same_name ts x ≡ false

abbrev pub AreSilent : Name → List PlainMember → Type 0
AreSilent x ms = AllByRecursion (IsSilent x) ms

-- a line of a block says nothing of types that the block lacks
pub silent_of : (family : List Name) (x : Name) → has same_name family x ≡ false
    → (m : PlainMember) → IsOf family m → IsSilent x m
silent_of family x none (alone d) h = tt
silent_of family x none (a_type n ts cs t) h =
    (differs family n x h.1 none, ap (λ us. has same_name us x) h.0 ∙ none)
silent_of family x none (a_ctor p n c) h = differs family p x h none
silent_of family x none (a_recursor ts n r) h = ap (λ us. has same_name us x) h.0 ∙ none

-- the lines of a unit are of its types
types_of_family : (family : List Name) (ts : List BlockType)
    → ((x : Name) → has same_name (type_names ts) x ≡ true → has same_name family x ≡ true)
    → AllByRecursion (IsOf family) (type_members family ts)
types_of_family family [] known = tt
types_of_family family (t ∷ ts) known = (
  (refl, known t.name (has_first t.name (type_names ts))),
  types_of_family family ts (λ x e. known x (has_later t.name (type_names ts) x e)),
)

ctors_of_family : (family : List Name) (n : Name) (cs : List Ctor) → has same_name family n ≡ true
    → AllByRecursion (IsCtor n) cs → AllByRecursion (IsOf family) (ctor_members cs)
ctors_of_family family n [] known h = tt
ctors_of_family family n (c ∷ cs) known h =
    (ap (has same_name family) h.0.parent_is ∙ known, ctors_of_family family n cs known h.1)

all_ctors_of_family : (family : List Name) (ts : List BlockType)
    → ((x : Name) → has same_name (type_names ts) x ≡ true → has same_name family x ≡ true)
    → AllByRecursion IsType ts → AllByRecursion (IsOf family) (all_ctor_members ts)
all_ctors_of_family family [] known h = tt
all_ctors_of_family family (t ∷ ts) known h =
    each_append (IsOf family) (ctor_members t.ctors) (all_ctor_members ts)
    (ctors_of_family family t.name t.ctors (known t.name (has_first t.name (type_names ts)))
    (recursion_from_All (IsCtor t.name) t.ctors h.0.ctors))
    (all_ctors_of_family family ts (λ x e. known x (has_later t.name (type_names ts) x e)) h.1)

recs_of_family : (family : List Name) (x : Name) (rs : List BlockRecursor)
    → has same_name family x ≡ true → AllByRecursion (IsOf family) (rec_members family rs)
recs_of_family family x [] known = tt
recs_of_family family x (r ∷ rs) known = ((refl, (x, known)), recs_of_family family x rs known)

-- a list that is not empty has a name
pub some_name : (ts : List BlockType) → ts ≢ []
    → (x : Name) × (has same_name (type_names ts) x ≡ true)
some_name [] some = absurd (some refl)
some_name (t ∷ ts) some = (t.name, has_first t.name (type_names ts))

pub unit_of_family : (u : LibraryUnit) → IsUnit u → AllByRecursion (IsOf (types_of u)) (stated_of u)
unit_of_family (of_decl d) h = (tt, tt)
unit_of_family (of_block b rs) h =
    let family = type_names b.types in
    let some = some_name b.types h.some in
    let types = recursion_from_All IsType b.types h.types in
    each_append (IsOf family) (type_members family b.types)
    (all_ctor_members b.types ++ rec_members family rs)
    (types_of_family family b.types (λ x e. e))
    (each_append (IsOf family) (all_ctor_members b.types) (rec_members family rs)
    (all_ctors_of_family family b.types (λ x e. e) types)
    (recs_of_family family some.0 rs some.1))

-- no name is a type's of both units
abbrev pub IsApart : LibraryUnit → LibraryUnit → Type 0
IsApart u v =
    (x : Name) → has same_name (types_of u) x ≡ true → has same_name (types_of v) x ≡ true → ⊥

abbrev pub AreApart : Library → Type 0
AreApart [] = Unit {0}
AreApart (u ∷ us) = AllByRecursion (IsApart u) us × AreApart us

-- units that can be stated are apart, each from those behind it
abbrev AreByPlace : Library → Type 0
AreByPlace us =
    (m n : ℕ) (u v : LibraryUnit) (x : Name) → m ≢ n → slice_get us m ≡ Some u
    → slice_get us n ≡ Some v → has same_name (types_of u) x ≡ true
    → has same_name (types_of v) x ≡ true → ⊥

each_by_place : (P : LibraryUnit → Type 0) (us : Library)
    → ((k : ℕ) (v : LibraryUnit) → slice_get us k ≡ Some v → P v) → AllByRecursion P us
each_by_place P [] h = tt
each_by_place P (u ∷ us) h = (h 0 u refl, each_by_place P us (λ k v e. h (suc k) v e))

by_place : (us : Library) → AreByPlace us → AreApart us
by_place [] h = tt
by_place (u ∷ us) h = (
  each_by_place (IsApart u) us (λ k v e x a b. h 0 (suc k) u v x (λ i. omega arith) refl e a b),
  by_place us (λ m n v w x ne. h (suc m) (suc n) v w x (λ e. ne (omega arith))),
)

pub statable_units : (us : Library) → AreStatable us → AllByRecursion IsUnit us
statable_units us h = recursion_from_All IsUnit us h.each

pub statable_apart : (us : Library) → AreStatable us → AreApart us
statable_apart us h = by_place us h.apart
