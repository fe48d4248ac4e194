-- The section of a unit, among sections whose units rise.
use Rattle.std.proofs.Common.{◌≡◌, ℕ, suc, zero, ◌<◌, ◌≤◌, List, [], ◌∷◌, length, map, Option, Some, None, Bool, true, false, refl, ap, sym, ◌∙◌, arith, if◌then◌else◌}
use Rattle.std.proofs.lemmas.Bool.Decides.{nat_tests}
use Rattle.std.specs.Prelude.{slice_get, slice_index_or, nat_eq, nat_lt}
use Rattle.std.specs.List.Sorted.{IsNonDecreasingBy, IsPartitionPoint}
use Rattle.lk_written.specs.Outcomes as written
use Rattle.lk_written.specs.Outcomes.{section_for}
use Rattle.lk_store.specs.Contents.{Contents}
use Rattle.lk_trace.specs.declared.traced.FileSection.{FileSection}
use Rattle.lk_trace.specs.Files.{section_at, AreAbove, AreRising}

abbrev pub unit_of : FileSection → ℕ
unit_of s = s.section.unit

-- each is of a unit above this one
above_each : (m : ℕ) (xs : List FileSection) → AreAbove m xs → (j : ℕ) (d : FileSection)
    → j < length xs → m < unit_of (slice_index_or xs j d)
above_each m [] a j d h = absurd (omega (arith, h))
above_each m (s ∷ xs) a zero d h = a.0
above_each m (s ∷ xs) a (suc j) d h =
    let r = above_each (unit_of s) xs a.1 j d (omega (arith, h)) in omega (arith, r, a.0)

above_rise : (m : ℕ) (xs : List FileSection) → AreAbove m xs → IsNonDecreasingBy unit_of xs
above_rise m [] a i j d h l = absurd (omega (arith, l))
above_rise m (s ∷ xs) a zero zero d h l = omega arith
above_rise m (s ∷ xs) a zero (suc j) d h l =
    let r = above_each (unit_of s) xs a.1 j d (omega (arith, l)) in omega (arith, r)
above_rise m (s ∷ xs) a (suc i) zero d h l = absurd (omega (arith, h))
above_rise m (s ∷ xs) a (suc i) (suc j) d h l =
    above_rise (unit_of s) xs a.1 i j d (omega (arith, h)) (omega (arith, l))

-- units do not fall
pub units_rise : (xs : List FileSection) → AreRising xs → IsNonDecreasingBy unit_of xs
units_rise [] a i j d h l = absurd (omega (arith, l))
units_rise (s ∷ xs) a zero zero d h l = omega arith
units_rise (s ∷ xs) a zero (suc j) d h l =
    let r = above_each (unit_of s) xs a j d (omega (arith, l)) in omega (arith, r)
units_rise (s ∷ xs) a (suc i) zero d h l = absurd (omega (arith, h))
units_rise (s ∷ xs) a (suc i) (suc j) d h l =
    above_rise (unit_of s) xs a i j d (omega (arith, h)) (omega (arith, l))

rest_rises : (m : ℕ) (xs : List FileSection) → AreAbove m xs → AreRising xs
rest_rises m [] a = tt
rest_rises m (s ∷ xs) a = a.1

module _ (c : Contents) (n : ℕ) where
  -- a section of another unit is passed
  passed : (s : FileSection) (xs : List FileSection) → nat_eq (unit_of s) n ≡ false
      → section_for n (map (section_at c) (s ∷ xs)) ≡ section_for n (map (section_at c) xs)
  passed s xs h = ap (λ b. if b then Some (section_at c s) else section_for n (map (section_at c) xs)) h

  -- where all are above it, the unit has none
  none_above : (m : ℕ) (xs : List FileSection) → n ≤ m → AreAbove m xs
      → section_for n (map (section_at c) xs) ≡ None
  none_above m [] h a = refl
  none_above m (s ∷ xs) h a =
      let up = a.0 in
      let other : nat_eq (unit_of s) n ≡ false = grind (arith, nat_tests) in
      passed s xs other ∙ none_above (unit_of s) xs (omega (arith, up, h)) a.1

  -- the unit's section, if this one is it
  abbrev pub if_own : Option FileSection → Option written.FileSection
  if_own None = None
  if_own (Some s) = if nat_eq (unit_of s) n then Some (section_at c s) else None

  abbrev Point : List FileSection → ℕ → Type 0
  Point xs i = IsPartitionPoint (λ s. nat_lt (unit_of s) n ≡ true) (λ s. nat_lt (unit_of s) n ≡ false) xs i

  next_point : (s : FileSection) (xs : List FileSection) (i : ℕ) → Point (s ∷ xs) (suc i) → Point xs i
  next_point s xs i p =
      ((λ k d l h. p.0 (suc k) d (omega arith) (omega (arith, h))), (λ k d l h. p.1 (suc k) d (omega (arith, l)) (omega (arith, h))))

  -- the first that is not of a lower unit is the one
  pub in_rising : (xs : List FileSection) (i : ℕ) → AreRising xs → i ≤ length xs → Point xs i
      → section_for n (map (section_at c) xs) ≡ if_own (slice_get xs i)
  in_rising [] zero a h p = refl
  in_rising [] (suc i) a h p = absurd (omega (arith, h))
  in_rising (s ∷ xs) zero a h p = go (nat_eq (unit_of s) n) refl
    where
      go : (b : Bool) → nat_eq (unit_of s) n ≡ b
          → section_for n (map (section_at c) (s ∷ xs)) ≡ if_own (Some s)
      go true e =
          let own : written.FileSection = section_at c s in
          ap (λ b. if b then Some own else section_for n (map (section_at c) xs)) e
          ∙ sym (ap (λ b. if b then Some own else None) e)
      go false e =
          let low : nat_lt (unit_of s) n ≡ false = p.1 0 s (omega arith) (omega arith) in
          let up : n ≤ unit_of s = grind (arith, nat_tests) in
          passed s xs e ∙ none_above (unit_of s) xs up a
          ∙ sym (ap (λ b. if b then Some (section_at c s) else None) e)
  in_rising (s ∷ xs) (suc i) a h p =
      let low : nat_lt (unit_of s) n ≡ true = p.0 0 s (omega arith) (omega arith) in
      let other : nat_eq (unit_of s) n ≡ false = grind (arith, nat_tests) in
      passed s xs other ∙ in_rising xs i (rest_rises (unit_of s) xs a) (omega (arith, h)) (next_point s xs i p)

  pub found_own : (s : FileSection) → unit_of s ≡ n → if_own (Some s) ≡ Some (section_at c s)
  found_own s e =
      let own : nat_eq (unit_of s) n ≡ true = grind (arith, nat_tests) in
      ap (λ b. if b then Some (section_at c s) else None) own

  pub found_other : (s : FileSection) → (unit_of s ≡ n → ⊥) → if_own (Some s) ≡ None
  found_other s e =
      let other : nat_eq (unit_of s) n ≡ false = grind (arith, nat_tests) in
      ap (λ b. if b then Some (section_at c s) else None) other
