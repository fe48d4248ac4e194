-- Distinct texts of an input have no more units together than all of them.
use Rattle.std.proofs.Common.{◌≡◌, ℕ, zero, suc, ◌+◌, ◌<◌, ◌≤◌, List, [], ◌∷◌, length, map, get_or, set, slice_get, Some, refl, sym, ap, ◌∙◌, subst, arith, length-append, length-set, get_or-set_other, get_or-set_same, inl, inr}
use Rattle.std.proofs.lemmas.List.{length-map, get_or-map}
use Rattle.std.proofs.lemmas.Bool.{cases_lt}
use Rattle.lk_session.specs.declared.view.View.{View}
use Rattle.lk_session.specs.declared.view.Submission.{Submission}
use Rattle.lk_session.specs.Steps.{HasEach}
use Rattle.lk_session.specs.Texts.{Says, units_in, units_of}
use Rattle.lk_callers.specs.declared.turns.Turns.{Turns}
use Rattle.lk_callers.specs.Turns.{AreTurns}
use Rattle.lk_callers.specs.Owned.{all_units, text_at, call_of, HasTextAt, HasAll, AreOwn, FoundNoRoom}
use Rattle.lk_callers.proofs.Ordering.{tags_of, submitted_at, once_each, ordered, by_tags}

abbrev total : List ℕ → ℕ
total [] = 0
total (x ∷ xs) = x + total xs

-- the numbers at these places, together
abbrev picked : List ℕ → List ℕ → ℕ
picked fs [] = 0
picked fs (k ∷ ks) = get_or fs k 0 + picked fs ks

total_cleared : (fs : List ℕ) (k : ℕ) → k < length fs → total fs ≡ total (set fs k 0) + get_or fs k 0
total_cleared [] k lt = absurd (omega arith)
total_cleared (x ∷ fs) zero lt = omega arith
total_cleared (x ∷ fs) (suc k) lt = let h = total_cleared fs k (omega arith) in omega arith

picked_cleared : (fs : List ℕ) (k : ℕ) (ks : List ℕ) → ((i : ℕ) → slice_get ks i ≡ Some k → ⊥) → picked (set fs k 0) ks ≡ picked fs ks
picked_cleared fs k [] h = refl
picked_cleared fs k (m ∷ ks) h =
    let rest = picked_cleared fs k ks (λ i e. h (suc i) e) in
    let first : get_or (set fs k 0) m 0 ≡ get_or fs m 0 = get_or-set_other fs k m 0 0 (λ e. h 0 (ap (λ (j : ℕ). Some j) e)) in
    λ i. first i + rest i

picked_fits : (ks fs : List ℕ) → ((i k : ℕ) → slice_get ks i ≡ Some k → k < length fs) → ((i j k : ℕ) → slice_get ks i ≡ Some k → slice_get ks j ≡ Some k → i ≡ j) → picked fs ks ≤ total fs
picked_fits [] fs below once = omega arith
picked_fits (k ∷ ks) fs below once =
    let gone : (i : ℕ) → slice_get ks i ≡ Some k → ⊥ = λ i e. let f : 0 ≡ suc i = once 0 (suc i) k refl e in absurd (omega (arith, f)) in
    let same = picked_cleared fs k ks gone in
    let less = total_cleared fs k (below 0 k refl) in
    let size = length-set fs k 0 in
    let fits = picked_fits ks (set fs k 0) (λ i j e. omega (arith, below (suc i) j e, size)) (λ i j m a b. omega (arith, once (suc i) (suc j) m a b)) in
    omega arith

picked_less : (fs : List ℕ) (k : ℕ) (ks : List ℕ) → picked (set fs k 0) ks ≤ picked fs ks
picked_less fs k [] = omega arith
picked_less fs k (m ∷ ks) = let rest = picked_less fs k ks in let one = less fs k m in omega arith
  where
    less : (fs : List ℕ) (k m : ℕ) → get_or (set fs k 0) m 0 ≤ get_or fs m 0
    less [] k m = omega arith
    less (x ∷ fs) zero zero = omega arith
    less (x ∷ fs) zero (suc m) = omega arith
    less (x ∷ fs) (suc k) zero = omega arith
    less (x ∷ fs) (suc k) (suc m) = less fs k m

nothing : (fs : List ℕ) → ((j : ℕ) → j < length fs → 0 < get_or fs j 0 → ⊥) → total fs ≡ 0
nothing [] h = refl
nothing (x ∷ fs) h =
    let rest = nothing fs (λ j lt more. h (suc j) (omega (arith, lt)) more) in
    elim (cases_lt 0 x) [
      | inl lt ↦ absurd (h 0 (omega arith) lt)
      | inr le ↦ omega (arith, le, rest)
    ]

-- where each place with a number that counts is picked, all are
picked_all : (ks fs : List ℕ) → ((j : ℕ) → j < length fs → 0 < get_or fs j 0 → (i : ℕ) × (slice_get ks i ≡ Some j)) → total fs ≤ picked fs ks
picked_all [] fs h = let z = nothing fs (λ j lt more. no_place j (h j lt more)) in omega arith
  where
    no_place : (j : ℕ) → (i : ℕ) × (slice_get [] i ≡ Some j) → ⊥
    no_place j (i, e) = absurd cc
picked_all (k ∷ ks) fs h = elim (cases_lt k (length fs)) [
  | inl lt ↦
      let sum = total_cleared fs k lt in
      let size = length-set fs k 0 in
      let rest = picked_all ks (set fs k 0) (λ j l more. later j (omega (arith, l, size)) more) in
      let less = picked_less fs k ks in
      omega arith
  | inr ge ↦ let rest = picked_all ks fs (λ j l more. other j (omega (arith, l, ge)) (h j l more)) in omega arith
]
  where
    other : (j : ℕ) → j < k → (i : ℕ) × (slice_get (k ∷ ks) i ≡ Some j) → (i : ℕ) × (slice_get ks i ≡ Some j)
    other j lt (zero, e) = let same : k ≡ j = cc in absurd (omega (arith, lt, same))
    other j lt (suc i, e) = (i, e)

    apart : (j : ℕ) → 0 < get_or (set fs k 0) j 0 → j < length fs → j ≡ k → ⊥
    apart j more lt e =
        let there : k < length fs = omega (arith, lt, e) in
        let none : get_or (set fs k 0) k 0 ≡ 0 = get_or-set_same fs k 0 0 there in
        let at : get_or (set fs k 0) j 0 ≡ get_or (set fs k 0) k 0 = ap (λ (m : ℕ). get_or (set fs k 0) m 0) e in
        absurd (omega (arith, more, none, at))

    not_first : (j : ℕ) → (j ≡ k → ⊥) → (i : ℕ) × (slice_get (k ∷ ks) i ≡ Some j) → (i : ℕ) × (slice_get ks i ≡ Some j)
    not_first j never (zero, e) = let same : k ≡ j = cc in absurd (never (sym same))
    not_first j never (suc i, e) = (i, e)

    later : (j : ℕ) → j < length fs → 0 < get_or (set fs k 0) j 0 → (i : ℕ) × (slice_get ks i ≡ Some j)
    later j lt more =
        let never = apart j more lt in
        let same : get_or (set fs k 0) j 0 ≡ get_or fs j 0 = get_or-set_other fs k j 0 0 never in
        not_first j never (h j lt (omega (arith, more, same)))

module _ (stated : Says) (texts : List (List ℕ)) where
  abbrev count_of : List ℕ → ℕ
  count_of t = length (units_in stated t)

  abbrev counts : List ℕ
  counts = map count_of texts

  all_total : (ts : List (List ℕ)) → length (all_units stated ts) ≡ total (map count_of ts)
  all_total [] = refl
  all_total (t ∷ ts) = length-append (units_in stated t) (all_units stated ts) ∙ ap (λ (n : ℕ). length (units_in stated t) + n) (all_total ts)

  count_at : (k : ℕ) → k < length texts → get_or counts k 0 ≡ length (units_in stated (text_at texts k))
  count_at k lt = get_or-map count_of texts k [] 0 lt

  listed : (order : List ℕ) → ((i k : ℕ) → slice_get order i ≡ Some k → k < length texts) → length (units_of stated (map (call_of texts) order)) ≡ picked counts order
  listed [] below = refl
  listed (k ∷ order) below =
      length-append (units_in stated (text_at texts k)) (units_of stated (map (call_of texts) order))
      ∙ (λ i. sym (count_at k (below 0 k refl)) i + listed order (λ j m e. below (suc j) m e) i)

  module _ (t : Turns) (v : View) (are : AreTurns t) (own : AreOwn texts t 0 t.passes (length texts) v) (each : HasEach v (length v.seen)) where
    below_all : (i k : ℕ) → slice_get (tags_of v.seen) i ≡ Some k → k < length texts
    below_all i k e = (submitted_at texts t are v own each i k e).0

    listed_units : length (units_of stated v.seen) ≡ picked counts (tags_of v.seen)
    listed_units =
        let seen : v.seen ≡ map (call_of texts) (tags_of v.seen) = by_tags texts v.seen (λ i k e. (submitted_at texts t are v own each i k e).1.call) in
        ap (λ (l : List Submission). length (units_of stated l)) seen ∙ listed (tags_of v.seen) below_all

    -- the list has no more units than the texts
    pub none_more : length (units_of stated v.seen) ≤ length (all_units stated texts)
    none_more =
        let size : length counts ≡ length texts = length-map texts count_of in
        let le = picked_fits (tags_of v.seen) counts (λ i k e. omega (arith, below_all i k e, size)) (once_each texts t are v own each) in
        let units = listed_units in
        let whole = all_total texts in
        omega arith

    -- and where it has all texts, no fewer
    pub none_fewer : HasAll texts t 0 t.passes (length texts) v → length (all_units stated texts) ≤ length (units_of stated v.seen)
    none_fewer all =
        let size : length counts ≡ length texts = length-map texts count_of in
        let o = ordered texts t are v own each all in
        let le = picked_all (tags_of v.seen) counts (λ j lt more. o.all j (omega (arith, lt, size))) in
        let units = listed_units in
        let whole = all_total texts in
        omega arith

  -- so where all have room in one list, none of them finds it full
  pub room_for_all : (t : Turns) (v : View) → AreTurns t → AreOwn texts t 0 t.passes (length texts) v → HasEach v (length v.seen)
      → length (all_units stated texts) ≤ 65536 → FoundNoRoom stated texts t 0 t.passes v → ⊥
  room_for_all t v are own each fits much =
      let order = tags_of v.seen in
      let at = submitted_at texts t are v own each in
      let below : (i k : ℕ) → slice_get order i ≡ Some k → k < length texts = λ i k e. (at i k e).0 in
      let size : length counts ≡ length texts = length-map texts count_of in
      let seen : v.seen ≡ map (call_of texts) order = by_tags texts v.seen (λ i k e. (at i k e).1.call) in
      let units : length (units_of stated v.seen) ≡ picked counts order = ap (λ (l : List Submission). length (units_of stated l)) seen ∙ listed order below in
      let one = count_at much.text much.within in
      let le = picked_fits (much.text ∷ order) counts
      (λ i k e. omega (arith, below_more i k e, size))
      once_more in
      let whole = all_total texts in
      let many = much.too_many in
      absurd (omega arith)
    where
      below_more : (i k : ℕ) → slice_get (much.text ∷ tags_of v.seen) i ≡ Some k → k < length texts
      below_more zero k e = let s : much.text ≡ k = cc in subst (λ (j : ℕ). j < length texts) s much.within
      below_more (suc i) k e = (submitted_at texts t are v own each i k e).0

      never : (j k : ℕ) → much.text ≡ k → slice_get (tags_of v.seen) j ≡ Some k → ⊥
      never j k s e = much.not_own j (subst (λ (m : ℕ). HasTextAt texts v j m) (sym s) (submitted_at texts t are v own each j k e).1)

      once_more : (i j k : ℕ) → slice_get (much.text ∷ tags_of v.seen) i ≡ Some k → slice_get (much.text ∷ tags_of v.seen) j ≡ Some k → i ≡ j
      once_more zero zero k a b = refl
      once_more zero (suc j) k a b = absurd (never j k (let s : much.text ≡ k = cc in s) b)
      once_more (suc i) zero k a b = absurd (never i k (let s : much.text ≡ k = cc in s) a)
      once_more (suc i) (suc j) k a b = ap suc (once_each texts t are v own each i j k a b)
