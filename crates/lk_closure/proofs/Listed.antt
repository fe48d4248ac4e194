-- The units of a rising list of numbers are the kept ones, and a unit's place in the list is its new number.
use Rattle.std.proofs.Common.{ℕ, zero, suc, ◌≡◌, ◌+◌, ◌<◌, ◌≤◌, ◌⊎◌, inl, inr, Bool, true, false, ◌||◌, nat_eq, length, List, [], ◌∷◌, Some, None, refl, sym, ap, subst, ◌∙◌, arith, if◌then◌else◌}
use Rattle.std.specs.Prelude.{slice_get, slice_index_or}
use Rattle.std.proofs.lemmas.Bool.Decides.{nat_tests}
use Rattle.std.specs.List.{Contains}
use Rattle.std.specs.List.Sorted.{IsStrictlyIncreasing}
use Rattle.std.proofs.lemmas.List.Kept.{AllPairs-from_increasing}
use Rattle.lk_rulebook.specs.Units.{LibraryUnit, Library}
use Rattle.lk_reach.proofs.Lists.{contains_cases, contains_later}
use Rattle.lk_reach.specs.Axioms.{IsAxiomOf}
use Rattle.lk_questions.specs.Table.{steps}
use Rattle.lk_verdict.specs.GoodUnit.{IsClearLibrary}
use Rattle.lk_verdict.specs.Verdict.{plain_verdict}
use Rattle.lk_uses.specs.Closure.{IsClosure, KeepsClosure, kept, renumbered}
use Rattle.lk_uses.specs.Listed.{IsClosureList, is_listed, units_at}
use Rattle.lk_closure.proofs.Axioms.{axioms_kept, axioms_back, unit_stands}
use Rattle.lk_closure.proofs.Least.{least_closed, closure_earlier}
use Rattle.lk_closure.proofs.Units.{each_kept, closed_below}

-- the numbers rise from i on
abbrev Rises : ℕ → List ℕ → Type 0
Rises i [] = Unit {0}
Rises i (k ∷ ks) = i ≤ k × Rises (suc k) ks

abbrev AllBelow : ℕ → List ℕ → Type 0
AllBelow n [] = Unit {0}
AllBelow n (k ∷ ks) = k < n × AllBelow n ks

differ : (m n : ℕ) → m < n → nat_eq m n ≡ false
differ m n l = grind (arith, nat_tests)

equal_numbers : (m n : ℕ) → nat_eq m n ≡ true → m ≡ n
equal_numbers m n h = grind (arith, nat_tests)

itself : (m n : ℕ) → m ≡ n → nat_eq m n ≡ true
itself m n e = grind (arith, nat_tests)

-- what stands before is not listed
not_listed : (j i : ℕ) (ks : List ℕ) → j < i → Rises i ks → is_listed ks j ≡ false
not_listed j i [] l r = refl
not_listed j i (k ∷ ks) l r = rw (differs k j (omega (arith, l, r.0))) (not_listed j (suc k) ks (omega (arith, l, r.0)) r.1)
  where
    differs : (m n : ℕ) → n < m → nat_eq m n ≡ false
    differs m n h = grind (arith, nat_tests)

listed_first : (i k : ℕ) (ks : List ℕ) → k ≡ i → is_listed (k ∷ ks) i ≡ true
listed_first i k ks e = rw (itself k i e) refl

listed_rest : (i k : ℕ) (ks : List ℕ) → k < i → is_listed (k ∷ ks) i ≡ is_listed ks i
listed_rest i k ks l = rw (differ k i l) refl

-- only what is kept from i on counts
renumbered_same : (i n : ℕ) (keep other : ℕ → Bool) → ((j : ℕ) → i ≤ j → keep j ≡ other j) → renumbered i keep n ≡ renumbered i other n
renumbered_same i zero keep other h = refl
renumbered_same i (suc n) keep other h =
    let r : renumbered (suc i) keep n ≡ renumbered (suc i) other n = renumbered_same (suc i) n keep other (λ j l. h j (omega (arith, l))) in
    rw (h i (omega arith), r) refl

kept_same_from : (i : ℕ) (keep other : ℕ → Bool) (us : Library) → ((j : ℕ) → i ≤ j → keep j ≡ other j) → kept i keep us ≡ kept i other us
kept_same_from i keep other [] h = refl
kept_same_from i keep other (u ∷ us) h =
    let r : kept (suc i) keep us ≡ kept (suc i) other us = kept_same_from (suc i) keep other us (λ j l. h j (omega (arith, l))) in
    rw (h i (omega arith), r) refl

none_kept : (i : ℕ) (us : Library) → kept i (is_listed []) us ≡ []
none_kept i [] = refl
none_kept i (u ∷ us) = none_kept (suc i) us

same_or_later : (i k : ℕ) → i ≤ k → (k ≡ i) ⊎ (suc i ≤ k)
same_or_later zero zero l = inl refl
same_or_later zero (suc k) l = inr (omega arith)
same_or_later (suc i) zero l = absurd (omega (arith, l))
same_or_later (suc i) (suc k) l = elim (same_or_later i k (omega (arith, l))) [ inl e ↦ inl (ap suc e) | inr m ↦ inr (omega (arith, m)) ]

picked : (whole : Library) (k : ℕ) (u : LibraryUnit) (ks : List ℕ) → slice_get whole k ≡ Some u → units_at whole (k ∷ ks) ≡ u ∷ units_at whole ks
picked whole k u ks e = ap (λ o. elim o as (λ x. Library) [ Some v ↦ v ∷ units_at whole ks | None ↦ units_at whole ks ]) e

-- us are the units of the whole library from number i on
kept_picked : (i : ℕ) (whole us : Library) (ks : List ℕ) → ((j : ℕ) → slice_get whole (i + j) ≡ slice_get us j) → Rises i ks → AllBelow (i + length us) ks → kept i (is_listed ks) us ≡ units_at whole ks
kept_picked i whole [] [] t r b = refl
kept_picked i whole [] (k ∷ ks) t r b = absurd (omega (arith, r.0, b.0))
kept_picked i whole (u ∷ us) [] t r b = none_kept i (u ∷ us)
kept_picked i whole (u ∷ us) (k ∷ ks) t r b = elim (same_or_later i k r.0) [
  | inl e ↦
      let first : is_listed (k ∷ ks) i ≡ true = listed_first i k ks e in
      let rest : kept (suc i) (is_listed (k ∷ ks)) us ≡ kept (suc i) (is_listed ks) us = kept_same_from (suc i) (is_listed (k ∷ ks)) (is_listed ks) us (λ j l. listed_rest j k ks (omega (arith, l, e))) in
      let more : kept (suc i) (is_listed ks) us ≡ units_at whole ks = kept_picked (suc i) whole us ks later (rises_from_next e) (below_rest ks b.1) in
      let at : slice_get whole k ≡ Some u = ap (slice_get whole) (let z : k ≡ i + 0 = omega (arith, e) in z) ∙ t 0 in
      ap (λ c. if c then u ∷ kept (suc i) (is_listed (k ∷ ks)) us else kept (suc i) (is_listed (k ∷ ks)) us) first ∙ (ap (λ vs. u ∷ vs) (rest ∙ more) ∙ sym (picked whole k u ks at))
  | inr l ↦
      let not_first : is_listed (k ∷ ks) i ≡ false = not_listed i (suc i) (k ∷ ks) (omega arith) (l, r.1) in
      ap (λ c. if c then u ∷ kept (suc i) (is_listed (k ∷ ks)) us else kept (suc i) (is_listed (k ∷ ks)) us) not_first
      ∙ kept_picked (suc i) whole us (k ∷ ks) later (l, r.1) (below_rest (k ∷ ks) b)
]
  where
    later : (j : ℕ) → slice_get whole (suc i + j) ≡ slice_get us j
    later j = let z : suc i + j ≡ i + suc j = omega arith in ap (slice_get whole) z ∙ t (suc j)

    rises_from_next : k ≡ i → Rises (suc i) ks
    rises_from_next e = subst (λ x. Rises (suc x) ks) e r.1

    below_rest : (js : List ℕ) → AllBelow (i + length (u ∷ us)) js → AllBelow (suc i + length us) js
    below_rest js h = let z : i + length (u ∷ us) ≡ suc i + length us = omega arith in subst (λ n. AllBelow n js) z h

-- what is in a rising list is not below its start
above_start : (i : ℕ) (ks : List ℕ) (p k : ℕ) → Rises i ks → slice_get ks p ≡ Some k → i ≤ k
above_start i [] p k r e = absurd cc
above_start i (x ∷ ks) zero k r e = let z : x ≡ k = cc in omega (arith, r.0, z)
above_start i (x ∷ ks) (suc p) k r e = let l : suc x ≤ k = above_start (suc x) ks p k r.1 e in omega (arith, r.0, l)

-- the new number of a unit is its place
place_is : (d i : ℕ) (ks : List ℕ) (p : ℕ) → Rises i ks → slice_get ks p ≡ Some (i + d) → renumbered i (is_listed ks) d ≡ p
place_is d i [] p r e = absurd cc
place_is zero i (k ∷ ks) zero r e = refl
place_is zero i (k ∷ ks) (suc p) r e = absurd (let l : suc k ≤ i + 0 = above_start (suc k) ks p (i + 0) r.1 e in omega (arith, r.0, l))
place_is (suc d) i (k ∷ ks) p r e = elim (same_or_later i k r.0) [
  | inl s ↦
      let first : is_listed (k ∷ ks) i ≡ true = listed_first i k ks s in
      let rest : renumbered (suc i) (is_listed (k ∷ ks)) d ≡ renumbered (suc i) (is_listed ks) d = renumbered_same (suc i) d (is_listed (k ∷ ks)) (is_listed ks) (λ j l. listed_rest j k ks (omega (arith, l, s))) in
      ap (λ c. if c then suc (renumbered (suc i) (is_listed (k ∷ ks)) d) else renumbered (suc i) (is_listed (k ∷ ks)) d) first
      ∙ (ap suc rest ∙ after (λ q x. place_is d (suc i) ks q (subst (λ z. Rises (suc z) ks) s r.1) x) p s e)
  | inr l ↦
      let not_first : is_listed (k ∷ ks) i ≡ false = not_listed i (suc i) (k ∷ ks) (omega arith) (l, r.1) in
      let z : i + suc d ≡ suc i + d = omega arith in
      ap (λ c. if c then suc (renumbered (suc i) (is_listed (k ∷ ks)) d) else renumbered (suc i) (is_listed (k ∷ ks)) d) not_first ∙ place_is d (suc i) (k ∷ ks) p (l, r.1) (e ∙ ap (λ x. Some x) z)
]
  where
    after : ((q : ℕ) → slice_get ks q ≡ Some (suc i + d) → renumbered (suc i) (is_listed ks) d ≡ q) → (p : ℕ) → k ≡ i → slice_get (k ∷ ks) p ≡ Some (i + suc d) → suc (renumbered (suc i) (is_listed ks) d) ≡ p
    after go zero s e = absurd (let z : k ≡ i + suc d = cc in omega (arith, z, s))
    after go (suc q) s e = let z : i + suc d ≡ suc i + d = omega arith in ap suc (go q (e ∙ ap (λ x. Some x) z))

-- a list of the closure is such a list
first_below : (x : ℕ) (xs : List ℕ) → IsStrictlyIncreasing (x ∷ xs) → (k : ℕ) → Contains xs k → x < k
first_below x xs h k c =
    let p : slice_index_or (x ∷ xs) 0 k < slice_index_or (x ∷ xs) (suc c.0) k = AllPairs-from_increasing (x ∷ xs) h 0 (suc c.0) k (omega arith) (omega (arith, c.1)) in
    subst (λ y. x < y) c.2 p

rest_rising : (x : ℕ) (xs : List ℕ) → IsStrictlyIncreasing (x ∷ xs) → IsStrictlyIncreasing xs
rest_rising x xs h = λ k l. let e : suc k + 1 ≡ suc (k + 1) = omega arith in subst (λ n. slice_index_or xs k 0 < slice_index_or (x ∷ xs) n 0) e (h (suc k) (omega (arith, l)))

rises : (i : ℕ) (ks : List ℕ) → IsStrictlyIncreasing ks → ((k : ℕ) → Contains ks k → i ≤ k) → Rises i ks
rises i [] h l = tt
rises i (k ∷ ks) h l = (l k (0, omega arith, refl), rises (suc k) ks (rest_rising k ks h) (λ m c. let z : k < m = first_below k ks h m c in omega (arith, z)))

all_below : (n : ℕ) (ks : List ℕ) → ((k : ℕ) → Contains ks k → k < n) → AllBelow n ks
all_below n [] h = tt
all_below n (k ∷ ks) h = (h k (0, omega arith, refl), all_below n ks (λ m c. h m (contains_later k ks m c)))

or_cases : (a b : Bool) → (a || b) ≡ true → (a ≡ true) ⊎ (b ≡ true)
or_cases true b h = inl refl
or_cases false b h = inr h

contains_listed : (ks : List ℕ) (k : ℕ) → Contains ks k → is_listed ks k ≡ true
contains_listed [] k c = absurd (omega (arith, c.1))
contains_listed (x ∷ ks) k c = elim (contains_cases x ks k c) [ inl e ↦ rw (itself x k e) refl | inr d ↦ or_right (nat_eq x k) (contains_listed ks k d) ]
  where
    or_right : (a : Bool) → is_listed ks k ≡ true → (a || is_listed ks k) ≡ true
    or_right true h = refl
    or_right false h = h

listed_contains : (ks : List ℕ) (k : ℕ) → is_listed ks k ≡ true → Contains ks k
listed_contains [] k h = absurd cc
listed_contains (x ∷ ks) k h = elim (or_cases (nat_eq x k) (is_listed ks k) h) [ inl e ↦ (0, omega arith, equal_numbers x k e) | inr d ↦ contains_later x ks k (listed_contains ks k d) ]

place_of_listed : (ks : List ℕ) (k : ℕ) → is_listed ks k ≡ true → (p : ℕ) × (slice_get ks p ≡ Some k)
place_of_listed [] k h = absurd cc
place_of_listed (x ∷ ks) k h = elim (or_cases (nat_eq x k) (is_listed ks k) h) [
  | inl e ↦ (0, ap (λ y. Some y) (equal_numbers x k e))
  | inr d ↦ let r : (p : ℕ) × (slice_get ks p ≡ Some k) = place_of_listed ks k d in (suc r.0, r.1)
]

placed_listed : (ks : List ℕ) (p k : ℕ) → slice_get ks p ≡ Some k → is_listed ks k ≡ true
placed_listed [] p k e = absurd cc
placed_listed (x ∷ ks) zero k e = let z : x ≡ k = cc in rw (itself x k z) refl
placed_listed (x ∷ ks) (suc p) k e = or_right (nat_eq x k) (placed_listed ks p k e)
  where
    or_right : (a : Bool) → is_listed ks k ≡ true → (a || is_listed ks k) ≡ true
    or_right true h = refl
    or_right false h = h

pub list_keeps : (us : Library) (n : ℕ) (ks : List ℕ) → IsClosureList us n ks → KeepsClosure us n (is_listed ks)
list_keeps us n ks h = record { each = λ k m. contains_listed ks k (h.all k m); only = λ k y. h.each k (listed_contains ks k y) }

module _ (us : Library) (n : ℕ) (ks : List ℕ) (h : IsClosureList us n ks) (inside : n < length us) where
  closed : IsClosure us n (is_listed ks)
  closed = least_closed us n (is_listed ks) (list_keeps us n ks h)

  rising : Rises 0 ks
  rising = rises 0 ks h.rising (λ k c. omega arith)

  same : kept 0 (is_listed ks) us ≡ units_at us ks
  same = kept_picked 0 us us ks (λ j. let z : 0 + j ≡ j = omega arith in ap (slice_get us) z) rising (all_below (0 + length us) ks (λ k c. let l : k ≤ n = closure_earlier us n k (h.each k c) in omega (arith, l, inside)))

  new_number : (p k : ℕ) → slice_get ks p ≡ Some k → renumbered 0 (is_listed ks) k ≡ p
  new_number p k e = place_is k 0 ks p rising (let z : k ≡ 0 + k = omega arith in e ∙ ap (λ x. Some x) z)

  below_own : (k : ℕ) → is_listed ks k ≡ true → k ≤ n
  below_own k y = closure_earlier us n k (h.each k (listed_contains ks k y))

  pub listed_stands : (p k : ℕ) → slice_get ks p ≡ Some k → slice_get (units_at us ks) p ≡ slice_get us k
  listed_stands p k e =
      subst (λ vs. slice_get vs p ≡ slice_get us k) same
      (subst (λ q. slice_get (kept 0 (is_listed ks) us) q ≡ slice_get us k) (new_number p k e) (unit_stands us k (is_listed ks) (placed_listed ks p k e)))

  pub listed_verdict : IsClearLibrary us → (p k budget : ℕ) → slice_get ks p ≡ Some k → plain_verdict steps (units_at us ks) p budget ≡ plain_verdict steps us k budget
  listed_verdict c p k budget e =
      let y : is_listed ks k ≡ true = placed_listed ks p k e in
      subst (λ vs. plain_verdict steps vs p budget ≡ plain_verdict steps us k budget) same
      (subst (λ q. plain_verdict steps (kept 0 (is_listed ks) us) q budget ≡ plain_verdict steps us k budget) (new_number p k e) (each_kept us n k (is_listed ks) budget c closed (below_own k y) y))

  pub listed_axioms : (p k m : ℕ) → slice_get ks p ≡ Some k → IsAxiomOf us k m → (q : ℕ) × (slice_get ks q ≡ Some m) × IsAxiomOf (units_at us ks) p q
  listed_axioms p k m e a =
      let y : is_listed ks k ≡ true = placed_listed ks p k e in
      let r : (is_listed ks m ≡ true) × IsAxiomOf (kept 0 (is_listed ks) us) (renumbered 0 (is_listed ks) k) (renumbered 0 (is_listed ks) m) =
      axioms_kept us k m (is_listed ks) (closed_below us n k (is_listed ks) (below_own k y) y closed) a in
      let q : (q : ℕ) × (slice_get ks q ≡ Some m) = place_of_listed ks m r.0 in (
        q.0,
        q.1,
        subst (λ vs. IsAxiomOf vs p q.0) same (subst (λ x. IsAxiomOf (kept 0 (is_listed ks) us) p x) (new_number q.0 m q.1) (subst (λ x. IsAxiomOf (kept 0 (is_listed ks) us) x (renumbered 0 (is_listed ks) m)) (new_number p k e) r.1)),
      )

  pub axioms_listed : (p k q : ℕ) → slice_get ks p ≡ Some k → IsAxiomOf (units_at us ks) p q → (m : ℕ) × (slice_get ks q ≡ Some m) × IsAxiomOf us k m
  axioms_listed p k q e a =
      let y : is_listed ks k ≡ true = placed_listed ks p k e in
      let b : IsAxiomOf (kept 0 (is_listed ks) us) (renumbered 0 (is_listed ks) k) q = subst (λ x. IsAxiomOf (kept 0 (is_listed ks) us) x q) (sym (new_number p k e)) (subst (λ vs. IsAxiomOf vs p q) (sym same) a) in
      let r : (m : ℕ) × (is_listed ks m ≡ true) × (q ≡ renumbered 0 (is_listed ks) m) × IsAxiomOf us k m = axioms_back us k q (is_listed ks) (closed_below us n k (is_listed ks) (below_own k y) y closed) b in
      let j : (j : ℕ) × (slice_get ks j ≡ Some r.0) = place_of_listed ks r.0 r.1 in
      let same_place : j.0 ≡ q = sym (new_number j.0 r.0 j.1) ∙ sym r.2 in
      (r.0, subst (λ x. slice_get ks x ≡ Some r.0) same_place j.1, r.3)
