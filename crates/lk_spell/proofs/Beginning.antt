-- Nothing is spelled or made yet: the numbers are those of the library.
use Rattle.std.proofs.Common.{◌≡◌, ℕ, ◌<◌, Bool, true, false, List, [], None, Some, length, refl, sym, subst, arith}
use Rattle.std.proofs.lemmas.Bool.{ltb-true, lt-ltb}
use Rattle.lk_store.proofs.Columns.{length-values_of}
use Rattle.lk_store.specs.Store.{names_by, levels_by, lists_by, trees_by, names_of, levels_of, parts_of}
use Rattle.std.specs.Prelude.{cond}
use Rattle.std.specs.HashMap.{get}
use Rattle.lk_store.specs.Contents.{Contents, Extends}
use Rattle.lk_store.specs.Store.{contents_of}
use Rattle.lk_store.specs.Sizes.{sizes_of}
use Rattle.lk_store.specs.declared.sizes.Sizes.{Sizes}
use Rattle.lk_store.specs.declared.tables.Tables.{Tables}
use Rattle.lk_spell.proofs.Growing.{Extends-self, same_after, same_before, same_self}
use Rattle.lk_spell.specs.Numbers.{part_eq, number_in, IsDone, Translates}
use Rattle.lk_spell.specs.Parts.{IsSame, IsPartIn, number_of}
use Rattle.lk_spell.specs.Sizes.{AreSizes, is_within}
use Rattle.lk_spell.proofs.Counting.{counting_begun}
use Rattle.lk_spell.proofs.InTurn.{IsMaking}
use Rattle.lk_spell.specs.Wide.{IsCounting}
use Rattle.lk_spell.specs.Spelled.{AreOwn}
use Rattle.lk_spell.specs.Spelling.{IsSpeller}
use Rattle.lk_spell.specs.declared.spelled.OwnNode.{OwnNode}
use Rattle.lk_spell.specs.declared.numbers.Numbers.{Numbers}
use Rattle.lk_spell.specs.declared.part.Part.{Part}
use Rattle.lk_spell.specs.declared.part.Part.TheVariants.{Name, Text, Level, List as Levels, Term}
use Rattle.lk_spell.specs.declared.speller.Speller.{Speller}

within_in : (c : Contents) (s : Sizes) (p : Part) → AreSizes c s → is_within s p ≡ true → IsPartIn c p
within_in c s (Name n) h is = subst (λ k. n < k) h.names (ltb-true n s.names is)
within_in c s (Text n) h is = subst (λ k. n < k) h.texts (ltb-true n s.texts is)
within_in c s (Level n) h is = subst (λ k. n < k) h.levels (ltb-true n s.levels is)
within_in c s (Levels n) h is = subst (λ k. n < k) h.lists (ltb-true n s.lists is)
within_in c s (Term n) h is = subst (λ k. n < k) h.terms (ltb-true n s.terms is)

in_within : (c : Contents) (s : Sizes) (p : Part) → AreSizes c s → IsPartIn c p → is_within s p ≡ true
in_within c s (Name n) h lt = lt-ltb n s.names (subst (λ k. n < k) (sym h.names) lt)
in_within c s (Text n) h lt = lt-ltb n s.texts (subst (λ k. n < k) (sym h.texts) lt)
in_within c s (Level n) h lt = lt-ltb n s.levels (subst (λ k. n < k) (sym h.levels) lt)
in_within c s (Levels n) h lt = lt-ltb n s.lists (subst (λ k. n < k) (sym h.lists) lt)
in_within c s (Term n) h lt = lt-ltb n s.terms (subst (λ k. n < k) (sym h.terms) lt)

-- a number of the library stands in both for the same
pub base_translates : (b c d : Contents) (m : Numbers) → AreSizes b m.base → ((p : Part) → get part_eq m.own p ≡ None) → Extends b c → Extends b d → Translates c d m
unfolding number_in
base_translates b c d m sizes none x y p n is = by (is_within m.base p) refl (subst (λ o. cond (is_within m.base p) (Some (number_of p)) o ≡ Some n) (none p) is)
  where
    by : (w : Bool) → is_within m.base p ≡ w → cond w (Some (number_of p)) None ≡ Some n → IsSame c d p n
    by true w h =
        let same : number_of p ≡ n = cc in
        subst (IsSame c d p) same (same_after c b d p (number_of p) y (same_before b c b p (number_of p) x (same_self b p (within_in b m.base p sizes w))))
    by false w h = absurd (let bad : None ≡ Some n = h in cc)

-- and each has one
base_done : (b : Contents) (m : Numbers) → AreSizes b m.base → (p : Part) → IsPartIn b p → IsDone m p
unfolding number_in
base_done b m sizes p h = rw (in_within b m.base p sizes h) refl

pub begun : (b c : Contents) (s : Speller) → AreSizes b s.numbers.base → AreSizes b s.sizes → ((p : Part) → get part_eq s.numbers.own p ≡ None) → s.own.items ≡ [] → s.counted ≡ 0
    → Extends b c → IsSpeller b c s
begun b c s base sizes none own counted x = record {
  own = rw own tt;
  sizes = rw own sizes;
  numbers = rw own (base_translates b c b s.numbers base none x (Extends-self b));
  counted = rw (own, counted) refl;
  few = rw counted (omega arith);
}

-- the sizes of a store are those of what it stands for
pub stored_sizes : (r : Tables) → AreSizes (contents_of r) (sizes_of r)
stored_sizes r = record {
  names = sym (length-values_of (names_by r.texts) r.names);
  texts = refl;
  levels = sym (length-values_of (levels_by (names_of r)) r.levels);
  lists = sym (length-values_of (lists_by (levels_of r)) r.lists);
  terms = sym (length-values_of (trees_by (parts_of r)) r.trees);
}

-- whoever begins knows the sizes of the library's store
module _ (r : Tables) (c : Contents) (sizes : Sizes) (is : sizes ≡ sizes_of r) where
  pub sized : AreSizes (contents_of r) sizes
  sized = subst (AreSizes (contents_of r)) (sym is) (stored_sizes r)

  pub base_known : (e : ℕ) → e < sizes.terms → e < length (contents_of r).trees
  base_known e lt = subst (λ k. e < k) sized.terms lt

  pub spelling_begun : (s : Speller) → s.numbers.base ≡ sizes → ((p : Part) → get part_eq s.numbers.own p ≡ None) → s.own.items ≡ [] → s.sizes ≡ sizes → s.counted ≡ 0
      → Extends (contents_of r) c → IsSpeller (contents_of r) c s
  spelling_begun s base none own s_sizes counted x =
      begun (contents_of r) c s (subst (AreSizes (contents_of r)) (sym base) sized) (subst (AreSizes (contents_of r)) (sym s_sizes) sized) none own counted x

  pub wide_begun : (s : Speller) (whole : Part) → s.numbers.base ≡ sizes → s.counted ≡ 0 → IsCounting (contents_of r) c whole s
  wide_begun s whole base counted =
      counting_begun (contents_of r) c whole s (base_done (contents_of r) s.numbers (subst (AreSizes (contents_of r)) (sym base) sized)) counted

  pub making_begun : (m : Numbers) (all : List OwnNode) → m.base ≡ sizes → ((p : Part) → get part_eq m.own p ≡ None) → AreOwn (contents_of r) all
      → Extends (contents_of r) c → IsMaking (contents_of r) c all all sizes m
  making_begun m all base none own x =
      let here = subst (AreSizes (contents_of r)) (sym base) sized in
      record {
        now = contents_of r;
        own = own;
        whole = refl;
        sized = sized;
        translates = base_translates (contents_of r) (contents_of r) c m here none (Extends-self (contents_of r)) x;
        done = base_done (contents_of r) m here;
      }
