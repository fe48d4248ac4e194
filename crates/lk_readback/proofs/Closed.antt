-- No line of units is open.
use Rattle.std.proofs.Common.{◌≡◌, true, false, inl, inr, List, [], ◌∷◌, ◌++◌, Some, None, refl}
use Rattle.std.proofs.Common.{ap, ◌∙◌}
use Rattle.std.specs.Prelude.{◌≢◌, not, is_some, if◌then◌else◌}
use Rattle.std.specs.List.{list_any, AllByRecursion}
use Rattle.std.proofs.lemmas.Bool.{or_from}
use Rattle.std.proofs.lemmas.List.Elements.{recursion_from_All}
use Rattle.lk_tree.specs.Tree.{Name}
use Rattle.lk_tree.specs.Mentions.{same_name}
use Rattle.lk_rulebook.specs.Place.{Ctor, BlockType, Block, type_names, BlockRecursor}
use Rattle.lk_rulebook.specs.Units.{LibraryUnit, of_decl, of_block, Library}
use Rattle.lk_trim.specs.Units.{ctor_names}
use Rattle.lk_members.specs.Lines.{has, same_list, type_of, block_of, ctor_of}
use Rattle.lk_members.specs.Faults.{lists_ctor, is_block, is_open, first_open}
use Rattle.lk_members.specs.Plain.{PlainMember, PlainLine}
use Rattle.lk_readback.specs.Statable.{IsType, IsCtor, IsBlock, IsUnit}
use Rattle.lk_readback.specs.Stated.{type_members, ctor_members, all_ctor_members}
use Rattle.lk_readback.specs.Stated.{rec_members, stated_of, all_stated, said_by}
use Rattle.lk_readback.proofs.Listed.{list_itself, has_first, IsIn, each_append}
use Rattle.lk_readback.proofs.LookedUp.{ctor_in, IsFoundIn, IsFound}

abbrev pub IsClosed : List PlainLine → PlainMember → Type 0
IsClosed ls m = is_open same_name ls m ≡ false

module _ (ls : List PlainLine) (b : Block) (rs : List BlockRecursor) (found : IsFoundIn ls b rs)
    (h : IsBlock b rs) where
  -- each type of the block has its line
  no_type_open : (ts : List BlockType) → ((t : BlockType) → IsIn t ts → IsIn t b.types)
      → list_any (λ x. not (is_some (type_of same_name ls x))) (type_names ts) ≡ false
  no_type_open [] known = refl
  no_type_open (t ∷ ts) known =
      or_from (not (is_some (type_of same_name ls t.name)))
      (list_any (λ x. not (is_some (type_of same_name ls x))) (type_names ts))
      (ap (λ o. not (is_some o)) (found.type t (known t (inl refl))))
      (no_type_open ts (λ u i. known u (inr i)))

  -- each constructor of a type has its line
  no_ctor_open : (t : BlockType) (cs : List Ctor) → IsIn t b.types
      → ((c : Ctor) → IsIn c cs → IsIn c t.ctors)
      → list_any (λ c. not (is_some (ctor_of same_name ls t.name c))) (ctor_names cs) ≡ false
  no_ctor_open t [] i known = refl
  no_ctor_open t (c ∷ cs) i known =
      or_from (not (is_some (ctor_of same_name ls t.name c.name)))
      (list_any (λ x. not (is_some (ctor_of same_name ls t.name x))) (ctor_names cs))
      (ap (λ o. not (is_some o)) (found.ctor t c i (known c (inl refl))))
      (no_ctor_open t cs i (λ d j. known d (inr j)))

  types_closed : (ts : List BlockType) → ((t : BlockType) → IsIn t ts → IsIn t b.types)
      → AllByRecursion (IsClosed ls) (type_members (type_names b.types) ts)
  types_closed [] known = tt
  types_closed (t ∷ ts) known = (
    or_from (list_any (λ x. not (is_some (type_of same_name ls x))) (type_names b.types))
        (list_any (λ c. not (is_some (ctor_of same_name ls t.name c))) (ctor_names t.ctors))
        (no_type_open b.types (λ u i. i))
        (no_ctor_open t t.ctors (known t (inl refl)) (λ c j. j)),
    types_closed ts (λ u i. known u (inr i)),
  )

  -- each type lists its constructors
  ctors_closed : (t : BlockType) (cs : List Ctor) → IsIn t b.types
      → AllByRecursion (IsCtor t.name) cs → ((c : Ctor) → IsIn c cs → IsIn c t.ctors)
      → AllByRecursion (IsClosed ls) (ctor_members cs)
  ctors_closed t [] i parents known = tt
  ctors_closed t (c ∷ cs) i parents known = (
    ap (λ p. not (lists_ctor same_name (type_of same_name ls p) c.name)) parents.0.parent_is
        ∙ ap (λ o. not (lists_ctor same_name o c.name)) (found.type t i)
        ∙ ap not (ctor_in t.ctors c (known c (inl refl))),
    ctors_closed t cs i parents.1 (λ d j. known d (inr j)),
  )

  all_ctors_closed : (ts : List BlockType) → AllByRecursion IsType ts
      → ((t : BlockType) → IsIn t ts → IsIn t b.types)
      → AllByRecursion (IsClosed ls) (all_ctor_members ts)
  all_ctors_closed [] types known = tt
  all_ctors_closed (t ∷ ts) types known =
      each_append (IsClosed ls) (ctor_members t.ctors) (all_ctor_members ts)
      (ctors_closed t t.ctors (known t (inl refl))
      (recursion_from_All (IsCtor t.name) t.ctors types.0.ctors) (λ c j. j))
      (all_ctors_closed ts types.1 (λ u i. known u (inr i)))

  -- the list is a block's
  is_a_block : (ts : List BlockType) → ts ≢ []
      → ((x : Name) → has same_name (type_names ts) x ≡ true
      → block_of same_name ls x ≡ Some (type_names ts))
      → is_block same_name ls (type_names ts) ≡ true
  is_a_block [] some known = absurd (some refl)
  is_a_block (t ∷ ts) some known =
      ap
      (λ o. elim o [ Some us ↦ same_list same_name us (t.name ∷ type_names ts) | None ↦ false ])
      (known t.name (has_first t.name (type_names ts)))
      ∙ list_itself (t.name ∷ type_names ts)

  recs_closed : (qs : List BlockRecursor)
      → AllByRecursion (IsClosed ls) (rec_members (type_names b.types) qs)
  recs_closed [] = tt
  recs_closed (q ∷ qs) = (ap not (is_a_block b.types h.some found.block), recs_closed qs)

  block_closed : AllByRecursion (IsClosed ls) (stated_of (of_block b rs))
  block_closed =
      each_append (IsClosed ls) (type_members (type_names b.types) b.types)
      (all_ctor_members b.types ++ rec_members (type_names b.types) rs)
      (types_closed b.types (λ t i. i))
      (each_append (IsClosed ls) (all_ctor_members b.types) (rec_members (type_names b.types) rs)
      (all_ctors_closed b.types (recursion_from_All IsType b.types h.types) (λ t i. i))
      (recs_closed rs))

unit_closed : (ls : List PlainLine) (u : LibraryUnit) → IsUnit u → IsFound ls u
    → AllByRecursion (IsClosed ls) (stated_of u)
unit_closed ls (of_decl d) h found = (refl, tt)
unit_closed ls (of_block b rs) h found = block_closed ls b rs found h

pub all_closed : (ls : List PlainLine) (us : Library) → AllByRecursion IsUnit us
    → AllByRecursion (IsFound ls) us → AllByRecursion (IsClosed ls) (all_stated us)
all_closed ls [] h found = tt
all_closed ls (u ∷ us) h found =
    each_append (IsClosed ls) (stated_of u) (all_stated us) (unit_closed ls u h.0 found.0)
    (all_closed ls us h.1 found.1)

-- where no line is open there is no first
pub none_open : (ls rest : List PlainLine) → AllByRecursion (IsClosed ls) (said_by rest)
    → first_open same_name ls rest ≡ None
none_open ls [] h = refl
none_open ls (l ∷ rest) h =
    ap (λ b. if b then Some l.number else first_open same_name ls rest) h.0
    ∙ none_open ls rest h.1
