-- A sum that is 1 has one part that is 1, and a sum that is 0 has none.
use Rattle.std.proofs.Common.{◌≡◌, ◌≢◌, ℕ, zero, suc, ◌+◌, ◌<◌, ◌≤◌, min, List, [], ◌∷◌, sum_by, refl, sym, ap, ◌∙◌, arith, inl, inr}
use Rattle.std.specs.Prelude.{◌⊎◌}
use Rattle.std.proofs.lemmas.List.Sums.{sum_by-cons}
use Rattle.std.proofs.lemmas.Bool.Decides.{nat_tests}
use mathlib.Core.Option.{some}
use lib.ListN.{get_elem?}
use Rattle.lk_desk.specs.declared.view.View.{View}
use Rattle.lk_desk.specs.Job.{Job, units_of}
use Rattle.lk_desk.specs.Rule.{Desk, IsDesk, IsSeated, claim_word, times, once_below}
use Rattle.lk_desk.specs.Once.{HasOne, HasNone}
use Rattle.lk_desk.proofs.Views.{part_le}

-- one view has 1, and the others have none
abbrev One : (View → ℕ) → List View → Type 0
One f vs = (id : ℕ) × (v : View) × (get_elem? vs id ≡ some v) × (f v ≡ 1) × ((j : ℕ) (u : View) → j ≢ id → get_elem? vs j ≡ some u → f u ≡ 0)

module _ (f : View → ℕ) where
  none_of : (vs : List View) → sum_by f vs ≡ 0 → (j : ℕ) (u : View) → get_elem? vs j ≡ some u → f u ≡ 0
  none_of vs e j u at = let p = part_le f vs j u at in omega arith

  one_of : (vs : List View) → sum_by f vs ≡ 1 → One f vs
  one_of [] e = absurd (omega arith)
  one_of (x ∷ vs) e = parts (λ d. one_of vs d) (f x) refl
    where
      whole : f x + sum_by f vs ≡ 1
      whole = sym (sum_by-cons f x vs) ∙ e

      parts : (sum_by f vs ≡ 1 → One f vs) → (n : ℕ) → f x ≡ n → One f (x ∷ vs)
      parts more zero is =
          let r = more (omega (arith, whole)) in (
            suc r.0,
            r.1,
            r.2,
            r.3,
            (let others : (j : ℕ) (u : View) → j ≢ suc r.0 → get_elem? (x ∷ vs) j ≡ some u → f u ≡ 0 = elim [
              | zero ↦ λ u ne at. let same : x ≡ u = cc in sym (ap f same) ∙ is
              | suc j ↦ λ u ne at. r.4 j u (λ h. ne (ap suc h)) at
            ] in others),
          )
      parts more (suc n) is = (
        0,
        x,
        refl,
        omega (arith, whole),
        (let others : (j : ℕ) (u : View) → j ≢ 0 → get_elem? (x ∷ vs) j ≡ some u → f u ≡ 0 = elim [
          | zero ↦ λ u ne at. absurd (ne refl)
          | suc j ↦ λ u ne at. none_of vs (omega (arith, whole)) j u at
        ] in others),
      )

some_or : (n : ℕ) → (0 < n) ⊎ (n ≡ 0)
some_or zero = inr refl
some_or (suc n) = inl (omega arith)

alive : (job : Job) (next x : ℕ) (v : View) → IsSeated job next v → times x v ≡ 1 → 0 < v.seats
alive job next x v fits one = elim (some_or v.seats) [
  | inl h ↦ h
  | inr none ↦ absurd (let z : times x v ≡ 0 = ap (times x) (fits.spent none) in omega arith)
]

once_in : (x n : ℕ) → x < n → once_below x n ≡ 1
once_in x n lt = grind (arith, nat_tests)

once_out : (x n : ℕ) → n ≤ x → once_below x n ≡ 0
once_out x n le = grind (arith, nat_tests)

pub has_one : (job : Job) (s : Desk) (x : ℕ) → IsDesk job s → x < claim_word s → x < units_of job → HasOne s x
has_one job s x kept a b =
    let one : sum_by (times x) s.views ≡ 1 = kept.once x ∙ once_in x (min (claim_word s) (units_of job)) (omega arith) in
    let r = one_of (times x) s.views one in
    (r.0, r.1, r.2, alive job (claim_word s) x r.1 (kept.each r.0 r.1 r.2) r.3, r.3, r.4)

pub has_none : (job : Job) (s : Desk) (x : ℕ) → IsDesk job s → (claim_word s ≤ x) ⊎ (units_of job ≤ x) → HasNone s x
has_none job s x kept (inl a) = none_of (times x) s.views (kept.once x ∙ once_out x (min (claim_word s) (units_of job)) (omega (arith, a)))
has_none job s x kept (inr b) = none_of (times x) s.views (kept.once x ∙ once_out x (min (claim_word s) (units_of job)) (omega (arith, b)))
