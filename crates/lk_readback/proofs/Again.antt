-- The lines of units state these units.
use Rattle.std.proofs.Common.{◌≡◌, Bool, true, false, inl, inr, List, [], ◌∷◌, ◌++◌, Option, Some}
use Rattle.std.proofs.Common.{None, refl, ap, sym, ◌∙◌, append_assoc, map}
use Rattle.std.specs.Prelude.{◌≢◌, ◌||◌, not, if◌then◌else◌}
use Rattle.std.specs.List.{list_any, flat_map, AllByRecursion}
use Rattle.std.proofs.lemmas.Bool.{or_from, or_left, false_from_ne_true}
use Rattle.std.proofs.lemmas.List.Elements.{recursion_from_All}
use Rattle.lk_tree.specs.Tree.{Name}
use Rattle.lk_tree.specs.Mentions.{same_name}
use Rattle.lk_rulebook.specs.Place.{Ctor, BlockType, Block, type_names, BlockRecursor}
use Rattle.lk_rulebook.specs.Units.{Decl, LibraryUnit, of_decl, of_block, Library}
use Rattle.lk_trim.specs.Units.{ctor_names}
use Rattle.lk_members.specs.Lines.{alone, a_type, a_ctor, a_recursor, has, same_list}
use Rattle.lk_members.specs.Lines.{type_of, block_of, recursors_of}
use Rattle.lk_members.specs.Units.{Gathered, if_any, is_this, ctors_listed, with_ctors}
use Rattle.lk_members.specs.Units.{block_with, block_at, is_last, ended, at_line, units_from}
use Rattle.lk_members.specs.Plain.{Head, PlainMember, PlainLine, with_its_ctors, unit_of}
use Rattle.lk_readback.specs.Statable.{IsType, IsCtor, IsBlock, IsUnit, types_of}
use Rattle.lk_readback.specs.Stated.{head_of, type_members, ctor_members, all_ctor_members}
use Rattle.lk_readback.specs.Stated.{rec_members, stated_of, all_stated, said_by}
use Rattle.lk_readback.proofs.Listed.{list_itself, IsIn, each_append, each_weaker}
use Rattle.lk_readback.proofs.Belonging.{IsOf, unit_of_family, some_name}
use Rattle.lk_readback.proofs.Belonging.{IsApart, AreApart}
use Rattle.lk_readback.proofs.LookedUp.{other_list, type_in, IsFoundIn, IsFound}

abbrev Units : Type 0
Units = List (Gathered Decl Head Ctor BlockRecursor)

-- lines that say these, by no number
abbrev pub lines : List PlainMember → List PlainLine
lines [] = []
lines (m ∷ ms) = record { number = 0; said = m } ∷ lines ms

-- a line that is not of the block
abbrev IsOther : List PlainLine → List Name → PlainMember → Type 0
IsOther ls family m = is_this same_name family (block_at same_name ls m) ≡ false

module _ (ls : List PlainLine) where
  -- units rest on what lines say
  any_said : (test : PlainMember → Bool) (later : List PlainLine)
      → list_any (λ (l : PlainLine). test l.said) later
      ≡ list_any (λ (l : PlainLine). test l.said) (lines (said_by later))
  any_said test [] = refl
  any_said test (l ∷ later) = ap (λ b. test l.said || b) (any_said test later)

  ended_said : (later : List PlainLine) (o : Option (List Name))
      → ended same_name ls later o ≡ ended same_name ls (lines (said_by later)) o
  ended_said later None = refl
  ended_said later (Some ts) =
      ap (λ b. if not b then block_with same_name ls ts ∷ [] else [])
      (any_said (λ m. is_this same_name ts (block_at same_name ls m)) later)

  line_said : (later : List PlainLine) (m : PlainMember)
      → at_line same_name ls later m ≡ at_line same_name ls (lines (said_by later)) m
  line_said later (alone d) = refl
  line_said later (a_type n ts cs t) = ended_said later (Some ts)
  line_said later (a_ctor p n c) = ended_said later (block_of same_name ls p)
  line_said later (a_recursor ts n r) = refl

  pub units_said : (later : List PlainLine)
      → units_from same_name ls later ≡ units_from same_name ls (lines (said_by later))
  units_said [] = refl
  units_said (l ∷ later) =
      ap (λ us. us ++ units_from same_name ls later) (line_said later l.said)
      ∙ ap (λ us. at_line same_name ls (lines (said_by later)) l.said ++ us) (units_said later)

  -- lines of one block, of which the last of all stands for it
  at_head : (family : List Name) (later : List PlainLine) (m : PlainMember)
      → block_at same_name ls m ≡ Some family
      → at_line same_name ls later m ≡ ended same_name ls later (Some family)
  at_head family later (alone d) e = absurd (cc)
  at_head family later (a_type n ts cs t) e = ap (ended same_name ls later) e
  at_head family later (a_ctor p n c) e = ap (ended same_name ls later) e
  at_head family later (a_recursor ts n r) e = absurd (cc)

  abbrev IsHead : List Name → PlainMember → Type 0
  IsHead family m = block_at same_name ls m ≡ Some family

  not_last : (family : List Name) (m : PlainMember) (later : List PlainMember) → IsHead family m
      → is_last same_name ls (lines (m ∷ later)) family ≡ false
  not_last family m later e =
      ap not
      (or_left (is_this same_name family (block_at same_name ls m))
      (list_any (λ (l : PlainLine). is_this same_name family (block_at same_name ls l.said))
      (lines later))
      (ap (is_this same_name family) e ∙ list_itself family))

  heads_stand : (family : List Name) (ms rest : List PlainMember) → ms ≢ []
      → AllByRecursion (IsHead family) ms
      → is_last same_name ls (lines rest) family ≡ true
      → units_from same_name ls (lines (ms ++ rest))
      ≡ block_with same_name ls family ∷ units_from same_name ls (lines rest)
  heads_stand family [] rest some heads last = absurd (some refl)
  heads_stand family (m ∷ []) rest some heads last =
      ap (λ us. us ++ units_from same_name ls (lines rest))
      (at_head family (lines rest) m heads.0 ∙
      ap (λ b. if b then block_with same_name ls family ∷ [] else []) last)
  heads_stand family (m ∷ n ∷ ms) rest some heads last =
      ap (λ us. us ++ units_from same_name ls (lines (n ∷ (ms ++ rest))))
      (at_head family (lines (n ∷ (ms ++ rest))) m heads.0 ∙
      ap (λ b. if b then block_with same_name ls family ∷ [] else [])
      (not_last family n (ms ++ rest) heads.1.0))
      ∙ heads_stand family (n ∷ ms) rest (λ e. cc) heads.1 last

  recs_stand : (family : List Name) (rs : List BlockRecursor) (rest : List PlainMember)
      → units_from same_name ls (lines (rec_members family rs ++ rest))
      ≡ units_from same_name ls (lines rest)
  recs_stand family [] rest = refl
  recs_stand family (r ∷ rs) rest = recs_stand family rs rest

  -- lines behind that are not of the block
  is_last_before : (family : List Name) (later : List PlainMember)
      → AllByRecursion (IsOther ls family) later
      → is_last same_name ls (lines later) family ≡ true
  is_last_before family later h = ap not (go later h)
    where
      go : (ms : List PlainMember) → AllByRecursion (IsOther ls family) ms
          → list_any (λ (l : PlainLine). is_this same_name family (block_at same_name ls l.said))
          (lines ms) ≡ false
      go [] a = refl
      go (m ∷ ms) a =
          or_from (is_this same_name family (block_at same_name ls m))
          (list_any (λ (l : PlainLine). is_this same_name family (block_at same_name ls l.said))
          (lines ms)) a.0 (go ms a.1)

  recs_other : (family us : List Name) (rs : List BlockRecursor)
      → AllByRecursion (IsOther ls family) (rec_members us rs)
  recs_other family us [] = tt
  recs_other family us (r ∷ rs) = (refl, recs_other family us rs)

  -- the lines of another unit
  line_other : (family us : List Name) (x : Name) → has same_name family x ≡ true
      → has same_name us x ≡ false
      → ((y : Name) → has same_name us y ≡ true → block_of same_name ls y ≡ Some us)
      → (m : PlainMember) → IsOf us m → IsOther ls family m
  line_other family us x there none known (alone d) h = refl
  line_other family us x there none known (a_type n ts cs t) h =
      ap (λ ws. same_list same_name ws family) h.0 ∙ other_list us family x there none
  line_other family us x there none known (a_ctor p n c) h =
      ap (is_this same_name family) (known p h) ∙ other_list us family x there none
  line_other family us x there none known (a_recursor ts n r) h = refl

  unit_other : (u v : LibraryUnit) (x : Name) → has same_name (types_of u) x ≡ true
      → IsApart u v → IsUnit v → IsFound ls v
      → AllByRecursion (IsOther ls (types_of u)) (stated_of v)
  unit_other u (of_decl d) x there apart h found = (refl, tt)
  unit_other u (of_block b rs) x there apart h found =
      each_weaker (IsOf (type_names b.types)) (IsOther ls (types_of u))
      (line_other (types_of u) (type_names b.types) x there
      (false_from_ne_true (has same_name (type_names b.types) x) (λ e. apart x there e))
      found.block)
      (stated_of (of_block b rs)) (unit_of_family (of_block b rs) h)

  units_other : (u : LibraryUnit) (us : Library) (x : Name) → has same_name (types_of u) x ≡ true
      → AllByRecursion (IsApart u) us → AllByRecursion IsUnit us
      → AllByRecursion (IsFound ls) us
      → AllByRecursion (IsOther ls (types_of u)) (all_stated us)
  units_other u [] x there apart h found = tt
  units_other u (v ∷ us) x there apart h found =
      each_append (IsOther ls (types_of u)) (stated_of v) (all_stated us)
      (unit_other u v x there apart.0 h.0 found.0)
      (units_other u us x there apart.1 h.1 found.1)

  some_heads : (family : List Name) (ts : List BlockType) → ts ≢ []
      → (type_members family ts ++ all_ctor_members ts) ≢ []
  some_heads family [] some = absurd (some refl)
  some_heads family (t ∷ ts) some = λ e. cc

  module _ (b : Block) (rs : List BlockRecursor) (found : IsFoundIn ls b rs) where
    -- the lines of its types and constructors lead to the block
    types_lead : (ts : List BlockType)
        → AllByRecursion (IsHead (type_names b.types)) (type_members (type_names b.types) ts)
    types_lead [] = tt
    types_lead (t ∷ ts) = (refl, types_lead ts)

    ctors_lead : (n : Name) (cs : List Ctor) → has same_name (type_names b.types) n ≡ true
        → AllByRecursion (IsCtor n) cs
        → AllByRecursion (IsHead (type_names b.types)) (ctor_members cs)
    ctors_lead n [] there h = tt
    ctors_lead n (c ∷ cs) there h = (
      ap (block_of same_name ls) h.0.parent_is ∙ found.block n there,
      ctors_lead n cs there h.1,
    )

    all_ctors_lead : (ts : List BlockType) → AllByRecursion IsType ts
        → ((t : BlockType) → IsIn t ts → IsIn t b.types)
        → AllByRecursion (IsHead (type_names b.types)) (all_ctor_members ts)
    all_ctors_lead [] types known = tt
    all_ctors_lead (t ∷ ts) types known =
        each_append (IsHead (type_names b.types)) (ctor_members t.ctors) (all_ctor_members ts)
        (ctors_lead t.name t.ctors (type_in b.types t (known t (inl refl)))
        (recursion_from_All (IsCtor t.name) t.ctors types.0.ctors))
        (all_ctors_lead ts types.1 (λ u i. known u (inr i)))

    -- what is gathered for the block is the block
    ctors_again : (t : BlockType) (cs : List Ctor) → IsIn t b.types
        → ((c : Ctor) → IsIn c cs → IsIn c t.ctors)
        → ctors_listed same_name ls t.name (ctor_names cs) ≡ cs
    ctors_again t [] i known = refl
    ctors_again t (c ∷ cs) i known =
        ap (λ o. if_any o ++ ctors_listed same_name ls t.name (ctor_names cs))
        (found.ctor t c i (known c (inl refl)))
        ∙ ap (λ ds. c ∷ ds) (ctors_again t cs i (λ d j. known d (inr j)))

    abbrev gathered : List Name → List (Head × List Ctor)
    gathered xs = flat_map (λ x. with_ctors same_name ls x (type_of same_name ls x)) xs

    types_again : (ts : List BlockType) → ((t : BlockType) → IsIn t ts → IsIn t b.types)
        → map with_its_ctors (gathered (type_names ts)) ≡ ts
    types_again [] known = refl
    types_again (t ∷ ts) known =
        ap
        (λ o. map with_its_ctors (with_ctors same_name ls t.name o ++ gathered (type_names ts)))
        (found.type t (known t (inl refl)))
        ∙ (ap
        (λ cs. with_its_ctors (head_of t, cs) ∷ map with_its_ctors (gathered (type_names ts)))
        (ctors_again t t.ctors (known t (inl refl)) (λ c j. j))
        ∙ ap (λ us. t ∷ us) (types_again ts (λ u i. known u (inr i))))

    block_again : unit_of (block_with same_name ls (type_names b.types)) ≡ of_block b rs
    block_again =
        ap
        (λ ts. of_block (record { types = ts }) (recursors_of same_name ls (type_names b.types)))
        (types_again b.types (λ t i. i))
        ∙ ap (of_block b) found.recursors

    block_stands : (rest : List PlainMember) → IsBlock b rs
        → AllByRecursion (IsOther ls (type_names b.types)) rest
        → units_from same_name ls (lines (stated_of (of_block b rs) ++ rest))
        ≡ block_with same_name ls (type_names b.types) ∷ units_from same_name ls (lines rest)
    block_stands rest h other =
        ap (λ ms. units_from same_name ls (lines ms)) split
        ∙ heads_stand family (types ++ ctors) (recs ++ rest) (some_heads family b.types h.some)
        (each_append (IsHead family) types ctors (types_lead b.types)
        (all_ctors_lead b.types (recursion_from_All IsType b.types h.types) (λ t i. i)))
        (is_last_before family (recs ++ rest)
        (each_append (IsOther ls family) recs rest (recs_other family family rs) other))
        ∙ ap (λ us. block_with same_name ls family ∷ us) (recs_stand family rs rest)
      where
        family : List Name
        family = type_names b.types

        types : List PlainMember
        types = type_members family b.types

        ctors : List PlainMember
        ctors = all_ctor_members b.types

        recs : List PlainMember
        recs = rec_members family rs

        split : (types ++ (ctors ++ recs)) ++ rest ≡ (types ++ ctors) ++ (recs ++ rest)
        split =
            ap (λ ms. ms ++ rest) (sym (append_assoc types ctors recs))
            ∙ append_assoc (types ++ ctors) recs rest

  pub units_again : (us : Library) → AllByRecursion IsUnit us → AreApart us
      → AllByRecursion (IsFound ls) us
      → map unit_of (units_from same_name ls (lines (all_stated us))) ≡ us
  units_again [] h apart found = refl
  units_again (of_decl d ∷ us) h apart found =
      ap (λ vs. of_decl d ∷ vs) (units_again us h.1 apart.1 found.1)
  units_again (of_block b rs ∷ us) h apart found =
      let some = some_name b.types h.0.some in
      ap (map unit_of)
      (block_stands b rs found.0 (all_stated us) h.0
      (units_other (of_block b rs) us some.0 some.1 apart.0 h.1 found.1))
      ∙ (ap (λ u. u ∷ map unit_of (units_from same_name ls (lines (all_stated us))))
      (block_again b rs found.0)
      ∙ ap (λ vs. of_block b rs ∷ vs) (units_again us h.1 apart.1 found.1))
