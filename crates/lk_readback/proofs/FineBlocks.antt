-- A block of lines that are fine, without faults, and closed is one that can be stated.
use Rattle.std.specs.Prelude.{suc, ◌≡◌, Bool, true, false, not, ◌&&◌, ◌⊎◌, List, [], ◌∷◌}
use Rattle.std.specs.Prelude.{◌++◌, length, map, All, Option, Some, None, is_some, if◌then◌else◌}
use Rattle.std.specs.List.{flat_map, list_any}
use Rattle.std.proofs.Common.{inl, inr, refl, ap, sym, ◌∙◌, subst}
use Rattle.std.proofs.lemmas.Bool.{and_parts, or_parts}
use Rattle.std.proofs.lemmas.List.Elements.{All-nil, All-cons, All-head, All-tail}
use Rattle.lk_tree.specs.Tree.{Name}
use Rattle.lk_tree.specs.Mentions.{same_name}
use Rattle.lk_tree.proofs.LevelTests.{name_is}
use Rattle.lk_rulebook.specs.Place.{Ctor, BlockType, type_names}
use Rattle.lk_trim.specs.Units.{ctor_names}
use Rattle.lk_members.specs.Lines.{has, is_distinct, types_with, block_of}
use Rattle.lk_members.specs.Lines.{type_here, type_of, ctor_here, ctor_of}
use Rattle.lk_members.specs.Lines.{alone, a_type, a_ctor, a_recursor}
use Rattle.lk_members.specs.Faults.{is_open, first_open}
use Rattle.lk_members.specs.Units.{if_any, ctors_listed, with_ctors, block_with}
use Rattle.lk_members.specs.Plain.{Head, PlainMember, PlainLine, with_its_ctors, unit_of}
use Rattle.lk_readback.specs.Statable.{IsSmall, IsType, IsCtor, IsUnit}
use Rattle.lk_readback.proofs.Members.{IsHead, IsCtorLine, IsMember, AreMembers, HaveNoFault}
use Rattle.lk_readback.proofs.OneBlock.{next_cases, chosen, holds, IsOwn, all_own}
use Rattle.lk_readback.proofs.OneRecursor.{recursors_once, recursors_fine}

-- a line that is fine among all lines
pub record IsFine (lines : List PlainLine) (s : PlainMember) : Type 0 where
  pub member : IsMember s
  pub own : IsOwn lines s
  pub closed : is_open same_name lines s ≡ false

abbrev pub AreFine : List PlainLine → List PlainLine → Type 0
AreFine lines ls = All (λ (l : PlainLine). IsFine lines l.said) ls

all_closed : (lines ls : List PlainLine) → first_open same_name lines ls ≡ None
    → All (λ (l : PlainLine). is_open same_name lines l.said ≡ false) ls
all_closed lines [] e = All-nil (λ (l : PlainLine). is_open same_name lines l.said ≡ false)
all_closed lines (l ∷ ls) e =
    go (all_closed lines ls) (is_open same_name lines l.said) refl e
  where
    go : (first_open same_name lines ls ≡ None
        → All (λ (k : PlainLine). is_open same_name lines k.said ≡ false) ls)
        → (b : Bool) → is_open same_name lines l.said ≡ b
        → (if b then Some l.number else first_open same_name lines ls) ≡ None
        → All (λ (k : PlainLine). is_open same_name lines k.said ≡ false) (l ∷ ls)
    go more true is none = absurd cc
    go more false is none =
        All-cons (λ (k : PlainLine). is_open same_name lines k.said ≡ false) l ls is (more none)

pub all_fine : (ls : List PlainLine) → AreMembers ls → HaveNoFault ls
    → first_open same_name ls ls ≡ None → AreFine ls ls
all_fine ls members faultless closed k d within =
    record {
      member = members k d within;
      own = (all_own ls faultless).own k d within;
      closed = all_closed ls ls closed k d within;
    }

module _ (lines : List PlainLine) where
  -- the list of a block
  pub record IsFineList (ts : List Name) : Type 0 where
    pub distinct : is_distinct same_name ts ≡ true
    pub few : IsSmall (length ts)
    pub there : list_any (λ x. not (is_some (type_of same_name lines x))) ts ≡ false

  list_here : (s : PlainMember) (x : Name) (ts : List Name) → IsFine lines s
      → types_with same_name s x ≡ Some ts → IsFineList ts
  list_here (a_type n us cs t) x ts fine e =
      subst IsFineList (chosen (has same_name us x) us ts e).1
      (record {
        distinct = fine.own.types;
        few = fine.member.1.0;
        there = (or_parts (list_any (λ y. not (is_some (type_of same_name lines y))) us)
            (list_any (λ c. not (is_some (ctor_of same_name lines n c))) cs) fine.closed).0;
      })
  list_here (alone d) x ts fine e = absurd cc
  list_here (a_ctor p n c) x ts fine e = absurd cc
  list_here (a_recursor us n r) x ts fine e = absurd cc

  list_found : (ls : List PlainLine) (x : Name) (ts : List Name) → AreFine lines ls
      → block_of same_name ls x ≡ Some ts → IsFineList ts
  list_found [] x ts all e = absurd cc
  list_found (l ∷ ls) x ts all e =
      go (list_found ls x ts (All-tail (λ (k : PlainLine). IsFine lines k.said) l ls all))
      (next_cases (types_with same_name l.said x) (block_of same_name ls x) ts e)
    where
      go : (block_of same_name ls x ≡ Some ts → IsFineList ts)
          → (types_with same_name l.said x ≡ Some ts) ⊎ (block_of same_name ls x ≡ Some ts)
          → IsFineList ts
      go more (inl i) =
          list_here l.said x ts (All-head (λ (k : PlainLine). IsFine lines k.said) l ls all) i
      go more (inr i) = more i

  -- what is stated of a type
  record IsFineType (x : Name) (t : Head × List Name) : Type 0 where
    head : IsHead x t.0
    few : IsSmall (length t.1)
    distinct : is_distinct same_name t.1 ≡ true
    there : list_any (λ c. not (is_some (ctor_of same_name lines x c))) t.1 ≡ false

  type_stated : (s : PlainMember) (x : Name) (t : Head × List Name) → IsFine lines s
      → type_here same_name s x ≡ Some t → IsFineType x t
  type_stated (a_type n us cs h) x t fine e =
      let c = chosen {A = Head × List Name} (same_name n x) (h, cs) t e in
      subst (IsFineType x) c.1
      (subst (λ y. IsFineType y (h, cs)) (name_is n x c.0)
      (record {
        head = fine.member.0;
        few = fine.member.1.1;
        distinct = fine.own.ctors;
        there = (or_parts (list_any (λ y. not (is_some (type_of same_name lines y))) us)
            (list_any (λ c. not (is_some (ctor_of same_name lines n c))) cs) fine.closed).1;
      }))
  type_stated (alone d) x t fine e = absurd cc
  type_stated (a_ctor p n c) x t fine e = absurd cc
  type_stated (a_recursor us n r) x t fine e = absurd cc

  type_found : (ls : List PlainLine) (x : Name) (t : Head × List Name) → AreFine lines ls
      → type_of same_name ls x ≡ Some t → IsFineType x t
  type_found [] x t all e = absurd cc
  type_found (l ∷ ls) x t all e =
      go (type_found ls x t (All-tail (λ (k : PlainLine). IsFine lines k.said) l ls all))
      (next_cases (type_here same_name l.said x) (type_of same_name ls x) t e)
    where
      go : (type_of same_name ls x ≡ Some t → IsFineType x t)
          → (type_here same_name l.said x ≡ Some t) ⊎ (type_of same_name ls x ≡ Some t)
          → IsFineType x t
      go more (inl i) =
          type_stated l.said x t (All-head (λ (k : PlainLine). IsFine lines k.said) l ls all) i
      go more (inr i) = more i

  -- and of a constructor
  ctor_stated : (s : PlainMember) (p x : Name) (c : Ctor) → IsFine lines s
      → ctor_here same_name s p x ≡ Some c → IsCtorLine p x c
  ctor_stated (a_ctor q n d) p x c fine e =
      let t = chosen (same_name q p && same_name n x) d c e in
      let same = and_parts (same_name q p) (same_name n x) t.0 in
      subst (IsCtorLine p x) t.1
      (subst (λ y. IsCtorLine p y d) (name_is n x same.1)
      (subst (λ y. IsCtorLine y n d) (name_is q p same.0) fine.member))
  ctor_stated (alone d) p x c fine e = absurd cc
  ctor_stated (a_type n us cs h) p x c fine e = absurd cc
  ctor_stated (a_recursor us n r) p x c fine e = absurd cc

  ctor_found : (ls : List PlainLine) (p x : Name) (c : Ctor) → AreFine lines ls
      → ctor_of same_name ls p x ≡ Some c → IsCtorLine p x c
  ctor_found [] p x c all e = absurd cc
  ctor_found (l ∷ ls) p x c all e =
      go (ctor_found ls p x c (All-tail (λ (k : PlainLine). IsFine lines k.said) l ls all))
      (next_cases (ctor_here same_name l.said p x) (ctor_of same_name ls p x) c e)
    where
      go : (ctor_of same_name ls p x ≡ Some c → IsCtorLine p x c)
          → (ctor_here same_name l.said p x ≡ Some c) ⊎ (ctor_of same_name ls p x ≡ Some c)
          → IsCtorLine p x c
      go more (inl i) =
          ctor_stated l.said p x c (All-head (λ (k : PlainLine). IsFine lines k.said) l ls all) i
      go more (inr i) = more i

  module _ (fine : AreFine lines lines) where
    -- the constructors of a list are made, each at its place
    record AreCtors (p : Name) (cs : List Name) (made : List Ctor) : Type 0 where
      names : ctor_names made ≡ cs
      each : All (IsCtor p) made

    ctors_made : (p : Name) (cs : List Name)
        → list_any (λ c. not (is_some (ctor_of same_name lines p c))) cs ≡ false
        → AreCtors p cs (ctors_listed same_name lines p cs)
    ctors_made p [] there = record { names = refl; each = All-nil (IsCtor p) }
    ctors_made p (c ∷ cs) there =
        let h = or_parts (not (is_some (ctor_of same_name lines p c)))
        (list_any (λ c. not (is_some (ctor_of same_name lines p c))) cs) there in
        go (ctor_of same_name lines p c) h.0 (ctor_found lines p c) (ctors_made p cs h.1)
      where
        go : (o : Option Ctor) → not (is_some o) ≡ false
            → ((k : Ctor) → AreFine lines lines → o ≡ Some k → IsCtorLine p c k)
            → AreCtors p cs (ctors_listed same_name lines p cs)
            → AreCtors p (c ∷ cs) (if_any o ++ ctors_listed same_name lines p cs)
        go None none found more = absurd cc
        go (Some k) none found more =
            let h = found k fine refl in
            record {
              names = ap (λ x. x ∷ ctor_names (ctors_listed same_name lines p cs)) h.name_is
                  ∙ ap (λ xs. c ∷ xs) more.names;
              each = All-cons (IsCtor p) k (ctors_listed same_name lines p cs)
                  (record {
                    name = h.name;
                    levels = h.levels;
                    type = h.type;
                    parent_is = h.parent_is;
                    place = h.place;
                    parameters = h.parameters;
                    fields = h.fields;
                  })
                  more.each;
            }

    length_names : (cs : List Ctor) → length (ctor_names cs) ≡ length cs
    length_names [] = refl
    length_names (c ∷ cs) = ap suc (length_names cs)

    type_made : (x : Name) (h : Head) (cs : List Name) → IsFineType x (h, cs)
        → IsType (with_its_ctors (h, ctors_listed same_name lines x cs))
    type_made x h cs t =
        let made = ctors_made x cs t.there in
        record {
          name = t.head.name;
          levels = t.head.levels;
          type = t.head.type;
          parameters = t.head.parameters;
          indices = t.head.indices;
          ctors =
              subst (λ y. All (IsCtor y) (ctors_listed same_name lines x cs))
              (sym t.head.name_is) made.each;
          few =
              subst IsSmall
              (sym (ap (λ (xs : List Name). length xs) made.names)
              ∙ length_names (ctors_listed same_name lines x cs))
              t.few;
          distinct =
              subst (λ xs. is_distinct same_name xs ≡ true) (sym made.names) t.distinct;
        }

    -- and so are the types of a block
    record AreTypes (ts : List Name) (made : List BlockType) : Type 0 where
      names : type_names made ≡ ts
      each : All IsType made

    abbrev made_types : List Name → List BlockType
    made_types ts =
        map with_its_ctors
        (flat_map (λ x. with_ctors same_name lines x (type_of same_name lines x)) ts)

    types_made : (ts : List Name)
        → list_any (λ x. not (is_some (type_of same_name lines x))) ts ≡ false
        → AreTypes ts (made_types ts)
    types_made [] there = record { names = refl; each = All-nil IsType }
    types_made (x ∷ ts) there =
        let h = or_parts (not (is_some (type_of same_name lines x)))
        (list_any (λ x. not (is_some (type_of same_name lines x))) ts) there in
        go (type_of same_name lines x) h.0 (type_found lines x) (types_made ts h.1)
      where
        go : (o : Option (Head × List Name)) → not (is_some o) ≡ false
            → ((t : Head × List Name) → AreFine lines lines → o ≡ Some t → IsFineType x t)
            → AreTypes ts (made_types ts)
            → AreTypes (x ∷ ts)
            (map with_its_ctors
            (with_ctors same_name lines x o
            ++ flat_map (λ x. with_ctors same_name lines x (type_of same_name lines x)) ts))
        go None none found more = absurd cc
        go (Some t) none found more =
            let h = found t fine refl in
            record {
              names = ap (λ y. y ∷ type_names (made_types ts)) h.head.name_is
                  ∙ ap (λ xs. x ∷ xs) more.names;
              each = All-cons IsType (with_its_ctors (t.0, ctors_listed same_name lines x t.1))
                  (made_types ts) (type_made x t.0 t.1 h) more.each;
            }

    length_types : (ts : List BlockType) → length (type_names ts) ≡ length ts
    length_types [] = refl
    length_types (t ∷ ts) = ap suc (length_types ts)

    -- the block with a list that is found
    pub names_made : (x : Name) (ts : List Name) → block_of same_name lines x ≡ Some ts
        → type_names (made_types ts) ≡ ts
    names_made x ts e = (types_made ts (list_found lines x ts fine e).there).names

    pub block_fine : (x : Name) (ts : List Name) → AreMembers lines → HaveNoFault lines
        → block_of same_name lines x ≡ Some ts → IsUnit (unit_of (block_with same_name lines ts))
    block_fine x ts members faultless e =
        let list = list_found lines x ts fine e in
        let made = types_made ts list.there in
        record {
          types = made.each;
          recursors = recursors_fine lines ts members;
          some = λ none.
              let empty : ts ≡ [] = sym made.names ∙ ap type_names none in
              let held : has same_name [] x ≡ true =
              ap (λ us. has same_name us x) (sym empty) ∙ holds lines x ts e in
              absurd cc;
          few =
              subst IsSmall
              (sym (ap (λ (xs : List Name). length xs) made.names) ∙ length_types (made_types ts))
              list.few;
          types_distinct =
              subst (λ xs. is_distinct same_name xs ≡ true) (sym made.names) list.distinct;
          recursors_distinct = recursors_once lines ts members faultless;
        }
