-- A block that is derived stays derived where more is given.
use Rattle.std.proofs.Common.{ℕ, suc, ◌≡◌, inl, inr, List, [], ◌∷◌, ◌++◌, take, Some, None, ap, ◌∙◌}
use Rattle.std.specs.Prelude.{slice_get}
use Rattle.lk_tree.specs.Tree.{Name, Level, Tree}
use Rattle.lk_rulebook.specs.Place.{Place, Entry, Block, BlockType, Ctor, RecRule}
use Rattle.lk_rulebook.specs.Units.{Members, LibraryUnit, given_by, first_giving, place_of, members_of, flaw_of}
use Rattle.lk_inductive.specs.Grows.{IsWithin, Completes}
use Rattle.lk_inductive.specs.Block.{Frame, FieldKind, Field, CtorShape, TypeShape, Shape}
use Rattle.lk_inductive.specs.Relation.{Telescope, no_pi, a_pi, AreParams, of_first, Over, over_none, over_one, IsPositive, mentions_none, arrow, member, FitsIn, in_prop, in_universe, AreFields, no_field, a_field, IsCtor, IsTypeOver, AreCtors, no_ctor, a_ctor_more, AreTypes, no_type, a_type_more, AreSmall, MayBeLarge, not_prop, empty, small, IsBlock}
use Rattle.lk_inductive.specs.Recursors.{BlockRecursor, recursors}
use Rattle.lk_inductive.specs.Compare.{AreRules, no_rule, a_rule, IsRec, IsOneOf, AreRecs}
use Rattle.lk_inductive.specs.Whole.{CtorsSorted, TypesSorted, AllCtorsSorted, partial_types, partial_members, BlockDerived}
use Rattle.lk_inductive.proofs.After.{after_within}
use Rattle.lk_inductive.proofs.Partials.{first_entry, given_append}
use Rattle.lk_inductive.proofs.More.{more_type, more_sort, more_prop, more_reduct, more_equal}

more_telescope : (w w' : Place) → IsWithin w w' → {j n : ℕ} {r rest : Tree} {xs : List Tree} → Telescope w j n r xs rest → Telescope w' j n r xs rest
more_telescope w w' i no_pi = no_pi
more_telescope w w' i (a_pi p b t) = a_pi (more_reduct w w' i p) b (more_telescope w w' i t)

more_params : (w w' : Place) → IsWithin w w' → {ts : List BlockType} {ps : List Tree} → AreParams w ts ps → AreParams w' ts ps
more_params w w' i (of_first h) = of_first (more_telescope w w' i h)

more_over : (w w' : Place) → IsWithin w w' → {ps : List Tree} {r rest : Tree} → Over w ps r rest → Over w' ps r rest
more_over w w' i over_none = over_none
more_over w w' i (over_one p e o) = over_one (more_reduct w w' i p) (more_equal w w' i e) (more_over w w' i o)

more_positive : (w w' : Place) → IsWithin w w' → {F : Frame} {j : ℕ} {A : Tree} {k : FieldKind} → IsPositive w F j A k → IsPositive w' F j A k
more_positive w w' i (mentions_none p m) = mentions_none (more_reduct w w' i p) m
more_positive w w' i (arrow p b m q) = arrow (more_reduct w w' i p) b m (more_positive w w' i q)
more_positive w w' i (member p b m) = member (more_reduct w w' i p) b m

more_fits : (w w' : Place) → IsWithin w w' → {l : Level} {A : Tree} → FitsIn w l A → FitsIn w' l A
more_fits w w' i (in_prop z) = in_prop z
more_fits w w' i (in_universe s l) = in_universe (more_sort w w' i s) l

more_fields : (w w' : Place) → IsWithin w w' → {F : Frame} {j n : ℕ} {r rest : Tree} {fs : List Field} → AreFields w F j n r fs rest → AreFields w' F j n r fs rest
more_fields w w' i no_field = no_field
more_fields w w' i (a_field p b u q h) = a_field (more_reduct w w' i p) b (more_fits w w' i u) (more_positive w w' i q) (more_fields w w' i h)

more_ctor : (w w' : Place) → IsWithin w w' → {F : Frame} {T : Name} {c : Ctor} {s : CtorShape} → IsCtor w F T c s → IsCtor w' F T c s
more_ctor w w' i h = record {
  name = h.name;
  rest = h.rest;
  last = h.last;
  last_is = h.last_is;
  over = more_over w w' i h.over;
  fields = more_fields w w' i h.fields;
  ends = more_reduct w w' i h.ends;
  scoped = h.scoped;
  own = h.own;
}

more_ctors : (w w' : Place) → IsWithin w w' → {F : Frame} {T : Name} {cs : List Ctor} {ss : List CtorShape} → AreCtors w F T cs ss → AreCtors w' F T cs ss
more_ctors w w' i no_ctor = no_ctor
more_ctors w w' i (a_ctor_more h k) = a_ctor_more (more_ctor w w' i h) (more_ctors w w' i k)

more_type_over : (w w' : Place) → IsWithin w w' → {F : Frame} {t : BlockType} {xs : List Tree} → IsTypeOver w F t xs → IsTypeOver w' F t xs
more_type_over w w' i h = record {
  rest = h.rest;
  last = h.last;
  level = h.level;
  over = more_over w w' i h.over;
  indices = more_telescope w w' i h.indices;
  ends = more_reduct w w' i h.ends;
  same = h.same;
}

more_types : (v v' w w' : Place) → IsWithin v v' → IsWithin w w' → {F : Frame} {ts : List BlockType} {ss : List TypeShape} → AreTypes v w F ts ss → AreTypes v' w' F ts ss
more_types v v' w w' i j no_type = no_type
more_types v v' w w' i j (a_type_more n o c k) = a_type_more n (more_type_over v v' i o) (more_ctors w w' j c) (more_types v v' w w' i j k)

more_small : (w w' : Place) → IsWithin w w' → (is : List Tree) (fs : List Field) → AreSmall w is fs → AreSmall w' is fs
more_small w w' i is [] h = tt
more_small w w' i is (f ∷ fs) h = (elim h.0 [ inl p ↦ inl (more_prop w w' i p) | inr a ↦ inr a ], more_small w w' i is fs h.1)

more_large : (w w' : Place) → IsWithin w w' → {l : Level} {ts : List TypeShape} → MayBeLarge w l ts → MayBeLarge w' l ts
more_large w w' i (not_prop h) = not_prop h
more_large w w' i (empty e) = empty e
more_large w w' i (small {c = c} e h) = small e (more_small w w' i c.indices c.fields h)

pub more_block : (v v' w w' : Place) → IsWithin v v' → IsWithin w w' → (b : Block) (s : Shape) → IsBlock v w b s → IsBlock v' w' b s
more_block v v' w w' i j b s h = record {
  levels = h.levels;
  parameters = h.parameters;
  params = more_params v v' i h.params;
  types = more_types v v' w w' i j h.types;
  large = λ e. more_large w w' j (h.large e);
}

more_rules : (w w' : Place) → IsWithin w w' → {a b : BlockRecursor} {as_ bs : List RecRule} → AreRules w a b as_ bs → AreRules w' a b as_ bs
more_rules w w' i no_rule = no_rule
more_rules w w' i (a_rule c f t e h) = a_rule c f (more_type w w' i t) (more_equal w w' i e) (more_rules w w' i h)

more_rec : (w w' : Place) → IsWithin w w' → (a b : BlockRecursor) → IsRec w a b → IsRec w' a b
more_rec w w' i a b h = record {
  name = h.name;
  parameters = h.parameters;
  indices = h.indices;
  motives = h.motives;
  minors = h.minors;
  k = h.k;
  levels = h.levels;
  type_sort = (h.type_sort.0, more_sort w w' i h.type_sort.1);
  type = more_equal w w' i h.type;
  rules = more_rules w w' i h.rules;
}

more_one_of : (w w' : Place) → IsWithin w w' → (a : BlockRecursor) (rs : List BlockRecursor) → IsOneOf w a rs → IsOneOf w' a rs
more_one_of w w' i a [] h = h
more_one_of w w' i a (r ∷ rs) (inl h) = inl (more_rec w w' i a r h)
more_one_of w w' i a (r ∷ rs) (inr h) = inr (more_one_of w w' i a rs h)

pub more_recs : (w w' : Place) → IsWithin w w' → (rs ss : List BlockRecursor) → AreRecs w rs ss → AreRecs w' rs ss
more_recs w w' i rs [] h = tt
more_recs w w' i rs (s ∷ ss) h = (more_one_of w w' i s rs h.0, more_recs w w' i rs ss h.1)

pub more_types_sorted : (w w' : Place) → IsWithin w w' → (ts : List BlockType) → TypesSorted w ts → TypesSorted w' ts
more_types_sorted w w' i [] h = tt
more_types_sorted w w' i (t ∷ ts) h = ((h.0.0, more_sort w w' i h.0.1), more_types_sorted w w' i ts h.1)

more_ctors_sorted : (w w' : Place) → IsWithin w w' → (cs : List Ctor) → CtorsSorted w cs → CtorsSorted w' cs
more_ctors_sorted w w' i [] h = tt
more_ctors_sorted w w' i (c ∷ cs) h = ((h.0.0, more_sort w w' i h.0.1), more_ctors_sorted w w' i cs h.1)

pub more_all_sorted : (w w' : Place) → IsWithin w w' → (ts : List BlockType) → AllCtorsSorted w ts → AllCtorsSorted w' ts
more_all_sorted w w' i [] h = tt
more_all_sorted w w' i (t ∷ ts) h = (more_ctors_sorted w w' i t.ctors h.0, more_all_sorted w w' i ts h.1)

-- at places each of which gives all that the other's does
pub more_good : (places later : Members → Place) (b : Block) (stated : List BlockRecursor) (s : Shape) →
    IsWithin (places []) (later []) → IsWithin (places (partial_types b)) (later (partial_types b)) → IsWithin (places (partial_types b ++ partial_members b stated)) (later (partial_types b ++ partial_members b stated)) →
    BlockDerived places b stated s → BlockDerived later b stated s
more_good places later b stated s i j k g = record {
  counts = g.counts;
  types_sorted = more_types_sorted (places []) (later []) i b.types g.types_sorted;
  ctors_sorted = more_all_sorted (places (partial_types b)) (later (partial_types b)) j b.types g.ctors_sorted;
  block = more_block (places []) (later []) (places (partial_types b)) (later (partial_types b)) i j b s g.block;
  recs = more_recs (places (partial_types b ++ partial_members b stated)) (later (partial_types b ++ partial_members b stated)) k (recursors s) stated g.recs;
}

-- what the unit completes it completes in part
complete_front : (xs ys ms : Members) → Completes (xs ++ ys) ms → Completes xs ms
complete_front xs ys ms f c e g = f c e (given_append xs ys c ∙ ap (λ o. first_entry o (given_by ys c)) g)

complete_none : (ms : Members) → Completes [] ms
complete_none ms c e g = absurd cc

-- a block that is derived where it stands is derived where its unit has been given
pub block_after : (us : List LibraryUnit) (n : ℕ) (u : LibraryUnit) (b : Block) (stated : List BlockRecursor) (s : Shape) → slice_get us n ≡ Some u → flaw_of u ≡ None → Completes (partial_types b ++ partial_members b stated) (members_of u) →
    ((c : Name) (e : Entry) → given_by (members_of u) c ≡ Some e → first_giving 0 (take n us) c ≡ None) → BlockDerived (place_of us n) b stated s → BlockDerived (λ h. place_of us (suc n) []) b stated s
block_after us n u b stated s at fine full fresh g =
    more_good (place_of us n) (λ h. place_of us (suc n) []) b stated s
    (after_within us n u [] at fine (complete_none (members_of u)) fresh)
    (after_within us n u (partial_types b) at fine (complete_front (partial_types b) (partial_members b stated) (members_of u) full) fresh)
    (after_within us n u (partial_types b ++ partial_members b stated) at fine full fresh) g
