-- Parts are counted, and what waits is part of the whole.
use Rattle.std.proofs.Common.{◌≡◌, ◌≢◌, ◌+◌, List, [], ◌∷◌, ◌++◌, map, Bool, true, false, refl, sym, subst, arith, inl, inr}
use Rattle.std.specs.Prelude.{All, AllPairs, Contains, if◌then◌else◌, Some}
use Rattle.std.proofs.lemmas.List.Elements.{All-append, All-cons, All-nil, All-contains_itself, All-pop, All-weaker, All-head, All-tail}
use Rattle.std.proofs.lemmas.List.Kept.{AllPairs-cons}
use Rattle.lk_store.specs.Contents.{Contents}
use Rattle.lk_spell.specs.Numbers.{IsDone}
use Rattle.lk_spell.specs.Opened.{part_of, parts_back, IsOpenedIn}
use Rattle.lk_spell.specs.Parts.{IsPartIn}
use Rattle.lk_spell.specs.Waiting.{IsEntered}
use Rattle.lk_spell.specs.Wide.{counts, IsPartOf, itself, inside, IsOwnPart, IsWide, IsCounting, IsCounted, IsOneMore, IfTooWide}
use Rattle.lk_spell.specs.declared.numbers.Numbers.{Numbers}
use Rattle.lk_spell.specs.declared.open.Opened.{Opened}
use Rattle.lk_spell.specs.declared.open.Visit.{Visit}
use Rattle.lk_spell.specs.declared.open.Visit.TheVariants.{Enter, Leave}
use Rattle.lk_spell.specs.declared.part.Part.{Part}
use Rattle.lk_spell.specs.declared.spelled.SpellError.{SpellError}
use Rattle.lk_spell.specs.declared.spelled.SpellError.TheVariants.{TooWide, NoMemory}
use Rattle.lk_spell.specs.declared.speller.Speller.{Speller}

abbrev pub visit_part : Visit → Part
visit_part (Enter p) = p
visit_part (Leave o) = part_of o

module _ (c : Contents) (whole : Part) where
  abbrev Of : Visit → Type 0
  Of v = IsPartOf c whole (visit_part v)

  parts_of_it : (o : Opened) → IsPartOf c whole (part_of o) → IsOpenedIn c o → (ps : List Part) → All (Contains (parts_back o)) ps → All Of (map Enter ps)
  parts_of_it o of there [] h = All-nil Of
  parts_of_it o of there (p ∷ ps) h =
      All-cons Of (Enter p) (map Enter ps) (inside o p of there (All-head (Contains (parts_back o)) p ps h))
      (parts_of_it o of there ps (All-tail (Contains (parts_back o)) p ps h))

  module _ (stack rest : List Visit) (v : Visit) (popped : stack ≡ rest ++ v ∷ []) (of : All Of stack) where
    pub of_rest : All Of rest
    of_rest = (All-pop Of stack rest (Some v) popped of).0

    pub of_top : Of v
    of_top = (All-pop Of stack rest (Some v) popped of).1

  pub of_entered : (m : Numbers) (stack rest new : List Visit) (p : Part) → stack ≡ rest ++ Enter p ∷ [] → All Of stack → IsEntered c m p rest new → All Of new
  of_entered m stack rest new p popped of (inl h) = subst (All Of) (sym h.0) (of_rest stack rest (Enter p) popped of)
  of_entered m stack rest new p popped of (inr h) =
      let opened : IsPartOf c whole (part_of h.opened) = subst (IsPartOf c whole) (sym h.is) (of_top stack rest (Enter p) popped of) in
      let above = All-cons Of (Leave h.opened) (map Enter (parts_back h.opened)) opened (parts_of_it h.opened opened h.there (parts_back h.opened) (All-contains_itself (parts_back h.opened))) in
      subst (All Of) (sym h.pushed) (All-append Of rest (Leave h.opened ∷ map Enter (parts_back h.opened)) (of_rest stack rest (Enter p) popped of) above)

module _ (b c : Contents) (whole p : Part) (of : IsPartOf c whole p) where
  -- a part without a number is none of the library, and none of those that were counted
  module _ (old : Speller) (h : IsCounting b c whole old) (new : IsDone old.numbers p → ⊥) where
    own : IsPartIn b p → ⊥
    own i = new (h.base p i)

    others : All (λ q. p ≢ q) h.parts
    others = All-weaker (IsDone old.numbers) (λ q. p ≢ q) (λ q d is. new (subst (IsDone old.numbers) (sym is) d)) h.parts h.done

    all : counts p ≡ true → All (IsOwnPart b c whole) (p ∷ h.parts)
    all counted = All-cons (IsOwnPart b c whole) p h.parts (record { of = of; counted = counted; own = own }) h.each

    apart : AllPairs (λ q r. q ≢ r) (p ∷ h.parts)
    apart = AllPairs-cons (λ q r. q ≢ r) p h.parts others h.apart

    pub one_more : counts p ≡ true → old.counted ≡ 4096 → IsWide b c whole
    one_more counted full = record { parts = p ∷ h.parts; many = let m = h.many in omega arith; each = all counted; apart = apart }

    pub counts_on : (after : Speller) → ((q : Part) → IsDone old.numbers q → IsDone after.numbers q) → IsDone after.numbers p
        → (k : Bool) → counts p ≡ k → after.counted ≡ old.counted + (if k then 1 else 0) → IsCounting b c whole after
    counts_on after stays now true is count = record {
      base = λ q i. stays q (h.base q i);
      parts = p ∷ h.parts;
      many = let m = h.many in omega arith;
      each = all is;
      apart = apart;
      done = All-cons (IsDone after.numbers) p h.parts now (All-weaker (IsDone old.numbers) (IsDone after.numbers) stays h.parts h.done);
    }
    counts_on after stays now false is count = record {
      base = λ q i. stays q (h.base q i);
      parts = h.parts;
      many = let m = h.many in omega arith;
      each = h.each;
      apart = h.apart;
      done = All-weaker (IsDone old.numbers) (IsDone after.numbers) stays h.parts h.done;
    }

  pub counted : (old new : Speller) → IsCounting b c whole old → IsCounted p old new → ((q : Part) → IsDone old.numbers q → IsDone new.numbers q) → IsDone new.numbers p → IsCounting b c whole new
  counted old new h (inl same) stays now = subst (IsCounting b c whole) (sym same) h
  counted old new h (inr more) stays now = counts_on old h more.0 new stays now (counts p) refl more.1

  pub wide : (s : Speller) → IsCounting b c whole s → IsOneMore p s → IsWide b c whole
  wide s h more = one_more s h more.new more.counted more.full

pub counting_begun : (b c : Contents) (whole : Part) (s : Speller) → ((p : Part) → IsPartIn b p → IsDone s.numbers p) → s.counted ≡ 0 → IsCounting b c whole s
counting_begun b c whole s base none = record {
  base = base;
  parts = [];
  many = sym none;
  each = All-nil (IsOwnPart b c whole);
  apart = λ i j d lt lj. absurd (omega arith);
  done = All-nil (IsDone s.numbers);
}

pub wide_weaker : (e : SpellError) (P Q : Type 0) → (P → Q) → IfTooWide e P → IfTooWide e Q
wide_weaker TooWide P Q f h = f h
wide_weaker NoMemory P Q f h = h

pub of_begun : (c : Contents) (whole : Part) (stack : List Visit) → stack ≡ Enter whole ∷ [] → All (λ v. IsPartOf c whole (visit_part v)) stack
of_begun c whole stack is = rw is (All-cons (λ v. IsPartOf c whole (visit_part v)) (Enter whole) [] itself (All-nil (λ v. IsPartOf c whole (visit_part v))))
