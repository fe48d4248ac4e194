-- The index with a line more.
use Rattle.std.proofs.Common.{◌≡◌, ℕ, ◌+◌, ◌<◌, ◌^◌, Bool, true, false, List, [], ◌∷◌, ◌++◌, length, map, Option, Some, None, refl, ap, sym, subst, ◌∙◌, arith}
use Rattle.std.specs.Prelude.{All, nat_eq, slice_get, ◌&&◌, if◌then◌else◌}
use Rattle.std.specs.List.{flat_map}
use Rattle.std.specs.Prelude.{Vec}
use Rattle.std.specs.declared.alloc.Global.{Global}
use Rattle.std.proofs.lemmas.List.{length-map, length-append}
use Rattle.std.specs.HashMap as hash_map
use Rattle.std.specs.HashSet as hash_set
use Rattle.lk_env.specs.declared.unit.Declaration.{Declaration}
use Rattle.lk_env.specs.declared.unit.Constructor.{Constructor}
use Rattle.lk_env.specs.declared.unit.Recursor.{Recursor}
use Rattle.lk_members.specs.declared.members.Key.{Key}
use Rattle.lk_members.specs.declared.members.Members.{Members}
use Rattle.lk_members.specs.declared.line.TypeHead.{TypeHead}
use Rattle.lk_members.specs.declared.line.StoredLine.{StoredLine}
use Rattle.lk_members.specs.Lines.{alone, a_type, a_ctor, a_recursor, or_next, has, same_list, types_with, block_of, type_here, type_of, ctor_here, ctor_of}
use Rattle.lk_members.specs.Stored.{NumberedMember, NumberedLine}
use Rattle.lk_members.specs.Indices.{key_eq, IsLed, group_of, recursor_at, IsIndexOf}
use Rattle.lk_members.specs.Taking.{with_line, with_place}
use Rattle.lk_members.proofs.Appending.{next_none, type_more, ctor_more, block_more}
use Rattle.lk_members.proofs.Grouping.{group_in, AreGrouped, grouped_other, grouped_recursor, grouped_list}
use Rattle.lk_members.proofs.Leading.{here_at, led_more}

-- the places of all members but recursors, behind a line
pub record ArePlaced (m new : Members) (lines : List NumberedLine) (said : NumberedMember) : Type 0 where
  pub types : (n : ℕ) → hash_map.get nat_eq new.types n ≡ or_next (hash_map.get nat_eq m.types n) (here_at (type_here nat_eq said n) (length lines))
  pub ctors : (t n : ℕ) → hash_map.get key_eq new.constructors (record { under = t; name = n }) ≡ or_next (hash_map.get key_eq m.constructors (record { under = t; name = n })) (here_at (ctor_here nat_eq said t n) (length lines))
  pub blocks : (n : ℕ) → hash_map.get nat_eq new.blocks n ≡ or_next (hash_map.get nat_eq m.blocks n) (here_at (types_with nat_eq said n) (length lines))

abbrev pub groups_of : Members → List (List ℕ)
groups_of m = map (λ g. g.items) m.recursors.items

abbrev pub named_in : Members → ℕ → ℕ → Bool
named_in m k n = hash_set.contains key_eq m.recursor_names (record { under = k; name = n })

group_is : (ls : List (List ℕ)) (gs : List (Vec ℕ Global)) (us : List ℕ) → group_of ls gs us ≡ group_in ls (map (λ g. g.items) gs) us
group_is [] gs us = refl
group_is (l ∷ ls) [] us = refl
group_is (l ∷ ls) (g ∷ gs) us = ap (λ x. if same_list nat_eq l us then g.items else x) (group_is ls gs us)

pub groups_are : (m : Members) (lines : List NumberedLine) → IsIndexOf m lines → AreGrouped m.lists (groups_of m) (named_in m) lines
groups_are m lines h = record {
  grouped = length-map m.recursors.items (λ (g : Vec ℕ Global). g.items) ∙ h.grouped;
  apart = h.apart;
  placed = λ us. subst (All (λ i. i < length lines)) (group_is m.lists m.recursors.items us) (h.placed us);
  found = λ us. ap (flat_map (recursor_at lines us)) (sym (group_is m.lists m.recursors.items us)) ∙ h.groups us;
  names = h.names;
  unlisted = h.unlisted;
  none_above = h.none_above;
}

pub index_of : (m : Members) (lines : List NumberedLine)
    → ((n : ℕ) → IsLed (λ s. type_here nat_eq s n) lines (hash_map.get nat_eq m.types n) (type_of nat_eq lines n))
    → ((t n : ℕ) → IsLed (λ s. ctor_here nat_eq s t n) lines (hash_map.get key_eq m.constructors (record { under = t; name = n })) (ctor_of nat_eq lines t n))
    → ((n : ℕ) → IsLed (λ s. types_with nat_eq s n) lines (hash_map.get nat_eq m.blocks n) (block_of nat_eq lines n))
    → AreGrouped m.lists (groups_of m) (named_in m) lines → length lines < 2 ^ 32 → IsIndexOf m lines
index_of m lines types ctors blocks h few = record {
  types = types;
  ctors = ctors;
  blocks = blocks;
  grouped = sym (length-map m.recursors.items (λ (g : Vec ℕ Global). g.items)) ∙ h.grouped;
  apart = h.apart;
  placed = λ us. subst (All (λ i. i < length lines)) (sym (group_is m.lists m.recursors.items us)) (h.placed us);
  groups = λ us. ap (flat_map (recursor_at lines us)) (group_is m.lists m.recursors.items us) ∙ h.found us;
  names = h.names;
  unlisted = h.unlisted;
  none_above = h.none_above;
  few = few;
}

-- with a line more
pub indexed_more : (m new : Members) (lines : List NumberedLine) (number : ℕ) (said : NumberedMember) → IsIndexOf m lines → length lines + 1 < 2 ^ 32 → ArePlaced m new lines said
    → AreGrouped new.lists (groups_of new) (named_in new) (with_line lines number said) → IsIndexOf new (with_line lines number said)
indexed_more m new lines number said h room p g =
    let l : NumberedLine = record { number = number; said = said } in
    index_of new (lines ++ l ∷ [])
    (λ n. led_more (λ s. type_here nat_eq s n) lines l (hash_map.get nat_eq m.types n) (hash_map.get nat_eq new.types n) (type_of nat_eq lines n) (type_of nat_eq (lines ++ l ∷ []) n) (h.types n) (p.types n) (type_more lines l n))
    (λ t n. led_more (λ s. ctor_here nat_eq s t n) lines l (hash_map.get key_eq m.constructors (record { under = t; name = n })) (hash_map.get key_eq new.constructors (record { under = t; name = n })) (ctor_of nat_eq lines t n) (ctor_of nat_eq (lines ++ l ∷ []) t n) (h.ctors t n) (p.ctors t n) (ctor_more lines l t n))
    (λ n. led_more (λ s. types_with nat_eq s n) lines l (hash_map.get nat_eq m.blocks n) (hash_map.get nat_eq new.blocks n) (block_of nat_eq lines n) (block_of nat_eq (lines ++ l ∷ []) n) (h.blocks n) (p.blocks n) (block_more lines l n))
    g (let e = length-append lines (l ∷ []) in omega arith)

-- the place of a line in which this is found where the test passes
here_if : {A : Type 0} (b : Bool) (a : A) (place i : ℕ) → place ≡ i → ◌≡◌ {A = Option ℕ} (if b then Some place else None) (here_at (if b then Some a else None) i)
here_if true a place i e = ap (λ x. Some x) e
here_if false a place i e = refl

module _ (m new : Members) (lines : List NumberedLine) (number place : ℕ) (h : IsIndexOf m lines) (room : length lines + 1 < 2 ^ 32) (at : place ≡ length lines)
    (types : (n : ℕ) → hash_map.get nat_eq new.types n ≡ hash_map.get nat_eq m.types n) (blocks : (n : ℕ) → hash_map.get nat_eq new.blocks n ≡ hash_map.get nat_eq m.blocks n) where
  pub ctor_noted : (parent name : ℕ) (k : Constructor)
      → ((q : Key) → hash_map.get key_eq new.constructors q ≡ or_next (hash_map.get key_eq m.constructors q) (if key_eq (record { under = parent; name = name }) q then Some place else None))
      → AreGrouped new.lists (groups_of new) (named_in new) lines → IsIndexOf new (with_line lines number (a_ctor parent name k))
  ctor_noted parent name k ctors g = indexed_more m new lines number (a_ctor parent name k) h room
      (record {
        types = λ n. types n ∙ sym (next_none (hash_map.get nat_eq m.types n));
        ctors = λ t n. ctors (record { under = t; name = n }) ∙ ap (or_next (hash_map.get key_eq m.constructors (record { under = t; name = n }))) (here_if (nat_eq parent t && nat_eq name n) k place (length lines) at);
        blocks = λ n. blocks n ∙ sym (next_none (hash_map.get nat_eq m.blocks n));
      })
      (grouped_other new.lists (groups_of new) (named_in new) lines (record { number = number; said = a_ctor parent name k }) g (λ us. refl) (λ us n. refl))

module _ (m new : Members) (lines : List NumberedLine) (number place : ℕ) (h : IsIndexOf m lines) (room : length lines + 1 < 2 ^ 32) (at : place ≡ length lines)
    (ctors : (q : Key) → hash_map.get key_eq new.constructors q ≡ hash_map.get key_eq m.constructors q) where
  pub type_noted : (name : ℕ) (ts cs : List ℕ) (t : TypeHead)
      → ((n : ℕ) → hash_map.get nat_eq new.types n ≡ or_next (hash_map.get nat_eq m.types n) (if nat_eq name n then Some place else None))
      → ((n : ℕ) → hash_map.get nat_eq new.blocks n ≡ or_next (hash_map.get nat_eq m.blocks n) (if has nat_eq ts n then Some place else None))
      → AreGrouped new.lists (groups_of new) (named_in new) lines → IsIndexOf new (with_line lines number (a_type name ts cs t))
  type_noted name ts cs t types blocks g = indexed_more m new lines number (a_type name ts cs t) h room
      (record {
        types = λ n. types n ∙ ap (or_next (hash_map.get nat_eq m.types n)) (here_if (nat_eq name n) (t, cs) place (length lines) at);
        ctors = λ u n. ctors (record { under = u; name = n }) ∙ sym (next_none (hash_map.get key_eq m.constructors (record { under = u; name = n })));
        blocks = λ n. blocks n ∙ ap (or_next (hash_map.get nat_eq m.blocks n)) (here_if (has nat_eq ts n) ts place (length lines) at);
      })
      (grouped_other new.lists (groups_of new) (named_in new) lines (record { number = number; said = a_type name ts cs t }) g (λ us. refl) (λ us n. refl))

module _ (m new : Members) (lines : List NumberedLine) (number : ℕ) (h : IsIndexOf m lines) (room : length lines + 1 < 2 ^ 32)
    (types : (n : ℕ) → hash_map.get nat_eq new.types n ≡ hash_map.get nat_eq m.types n) (ctors : (q : Key) → hash_map.get key_eq new.constructors q ≡ hash_map.get key_eq m.constructors q)
    (blocks : (n : ℕ) → hash_map.get nat_eq new.blocks n ≡ hash_map.get nat_eq m.blocks n) where
  still_placed : (said : NumberedMember) → ((n : ℕ) → type_here nat_eq said n ≡ None) → ((t n : ℕ) → ctor_here nat_eq said t n ≡ None) → ((n : ℕ) → types_with nat_eq said n ≡ None) → ArePlaced m new lines said
  still_placed said no_type no_ctor no_block = record {
    types = λ n. types n ∙ same (hash_map.get nat_eq m.types n) (type_here nat_eq said n) (no_type n);
    ctors = λ t n. ctors (record { under = t; name = n }) ∙ same (hash_map.get key_eq m.constructors (record { under = t; name = n })) (ctor_here nat_eq said t n) (no_ctor t n);
    blocks = λ n. blocks n ∙ same (hash_map.get nat_eq m.blocks n) (types_with nat_eq said n) (no_block n);
  }
    where
      same : {A : Type 0} (p : Option ℕ) (o : Option A) → o ≡ None → p ≡ or_next p (here_at o (length lines))
      same p o e = sym (ap (λ x. or_next p (here_at x (length lines))) e ∙ next_none p)

  pub alone_noted : (d : Declaration) → AreGrouped new.lists (groups_of new) (named_in new) lines → IsIndexOf new (with_line lines number (alone d))
  alone_noted d g = indexed_more m new lines number (alone d) h room (still_placed (alone d) (λ n. refl) (λ t n. refl) (λ n. refl))
      (grouped_other new.lists (groups_of new) (named_in new) lines (record { number = number; said = alone d }) g (λ us. refl) (λ us n. refl))

  pub recursor_noted : (place k name : ℕ) (ts : List ℕ) (r : Recursor) → place ≡ length lines → new.lists ≡ m.lists → slice_get m.lists k ≡ Some ts
      → ((q : Key) → hash_set.contains key_eq new.recursor_names q ≡ (if key_eq (record { under = k; name = name }) q then true else hash_set.contains key_eq m.recursor_names q))
      → groups_of new ≡ with_place (groups_of m) k place → IsIndexOf new (with_line lines number (a_recursor ts name r))
  recursor_noted place k name ts r at same there names groups = indexed_more m new lines number (a_recursor ts name r) h room (still_placed (a_recursor ts name r) (λ n. refl) (λ t n. refl) (λ n. refl))
      (subst (λ ls. AreGrouped ls (groups_of new) (named_in new) (with_line lines number (a_recursor ts name r))) (sym same)
      (grouped_recursor m.lists (groups_of m) (named_in m) lines (groups_are m lines h) number k name ts r there (named_in new) (groups_of new)
      (λ j n. names (record { under = j; name = n })) (groups ∙ ap (with_place (groups_of m) k) at)))

-- with a list more, and no line
pub listed_more : (m new : Members) (lines : List NumberedLine) (ts : List ℕ) → IsIndexOf m lines
    → ((n : ℕ) → hash_map.get nat_eq new.types n ≡ hash_map.get nat_eq m.types n) → ((q : Key) → hash_map.get key_eq new.constructors q ≡ hash_map.get key_eq m.constructors q)
    → ((n : ℕ) → hash_map.get nat_eq new.blocks n ≡ hash_map.get nat_eq m.blocks n) → ((q : Key) → hash_set.contains key_eq new.recursor_names q ≡ hash_set.contains key_eq m.recursor_names q)
    → new.lists ≡ m.lists ++ ts ∷ [] → groups_of new ≡ groups_of m ++ [] ∷ [] → ((k : ℕ) → slice_get m.lists k ≡ Some ts → ⊥) → IsIndexOf new lines
listed_more m new lines ts h types ctors blocks names lists groups fresh =
    index_of new lines
    (λ n. subst (λ p. IsLed (λ s. type_here nat_eq s n) lines p (type_of nat_eq lines n)) (sym (types n)) (h.types n))
    (λ t n. subst (λ p. IsLed (λ s. ctor_here nat_eq s t n) lines p (ctor_of nat_eq lines t n)) (sym (ctors (record { under = t; name = n }))) (h.ctors t n))
    (λ n. subst (λ p. IsLed (λ s. types_with nat_eq s n) lines p (block_of nat_eq lines n)) (sym (blocks n)) (h.blocks n))
    (named_same (subst (λ ls. AreGrouped ls (groups_of new) (named_in m) lines) (sym lists) (subst (λ gs. AreGrouped (m.lists ++ ts ∷ []) gs (named_in m) lines) (sym groups) (grouped_list m.lists (groups_of m) (named_in m) lines ts (groups_are m lines h) fresh))))
    h.few
  where
    named_same : AreGrouped new.lists (groups_of new) (named_in m) lines → AreGrouped new.lists (groups_of new) (named_in new) lines
    named_same g = record {
      grouped = g.grouped;
      apart = g.apart;
      placed = g.placed;
      found = g.found;
      names = λ k n us there. names (record { under = k; name = n }) ∙ g.names k n us there;
      unlisted = g.unlisted;
      none_above = λ k n above. names (record { under = k; name = n }) ∙ g.none_above k n above;
    }

-- the index speaks of the lines that it is given, and not of those that the members hold
pub lines_put : (m : Members) (v : Vec StoredLine Global) (lines : List NumberedLine) → IsIndexOf m lines → IsIndexOf (record m { lines = v }) lines
lines_put m v lines h = record {
  types = h.types;
  ctors = h.ctors;
  blocks = h.blocks;
  grouped = h.grouped;
  apart = h.apart;
  placed = h.placed;
  groups = h.groups;
  names = h.names;
  unlisted = h.unlisted;
  none_above = h.none_above;
  few = h.few;
}
