-- The text of a closure states its units again, with their verdicts and axioms.
use Rattle.std.proofs.Common.{arith, ℕ, zero, suc, ◌≡◌, ◌+◌, ◌<◌, ◌⊎◌, inl, inr, List, [], ◌∷◌}
use Rattle.std.proofs.Common.{length, Ok, Some, refl, subst}
use Rattle.std.specs.Prelude.{slice_get, slice_index}
use Rattle.std.specs.List.Sorted.{IsStrictlyIncreasing}
use Rattle.lk_verdict.proofs.Spelled.{spelled_clear}
use Rattle.lk_uses.specs.Listed.{IsClosureList, units_at}
use Rattle.lk_closure.proofs.Listed.{listed_verdict, listed_axioms, axioms_listed}
use Rattle.lk_book.specs.File.{Export, export_of}
use Rattle.lk_book.proofs.Spelled.{read_spelled}
use Rattle.lk_trim.specs.Whole.{canonical_text, kept_of}
use Rattle.lk_readback.specs.Stated.{kept_budgets}
use Rattle.lk_readback.specs.Within.{IsWithinLimits}
use Rattle.lk_readback.specs.Trimmed.{StatesAgain}
use Rattle.lk_readback.proofs.Picked.{read_statable, read_budgets}
use Rattle.lk_readback.proofs.ReadBack.{read_back}

stands : (ks : List ℕ) (i n : ℕ) → slice_get ks i ≡ Some n → (i < length ks) × (slice_index ks i ≡ n)
stands [] i n is = absurd (cc is)
stands (k ∷ ks) zero n is = (omega arith, cc is)
stands (k ∷ ks) (suc i) n is =
    let rest = stands ks i n is in
    (omega (arith, rest.0), rest.1)

-- of rising numbers a later one is greater
rises : (ks : List ℕ) → IsStrictlyIncreasing ks → (d i : ℕ) → i + suc d < length ks
    → slice_index ks i < slice_index ks (i + suc d)
rises ks rising zero i below =
    let next : i + 1 ≡ i + suc zero = omega arith in
    subst (λ j. slice_index ks i < slice_index ks j) next (rising i (omega (arith, below)))
rises ks rising (suc d) i below =
    let before = rises ks rising d i (omega (arith, below)) in
    let next : (i + suc d) + 1 ≡ i + suc (suc d) = omega arith in
    let last = rising (i + suc d) (omega (arith, below)) in
    subst (λ j. slice_index ks i < slice_index ks j) next (omega (arith, before, last))

order : (i j : ℕ) → (i ≡ j) ⊎ (((d : ℕ) × (j ≡ i + suc d)) ⊎ ((d : ℕ) × (i ≡ j + suc d)))
order zero zero = inl refl
order zero (suc j) = inr (inl (j, omega arith))
order (suc i) zero = inr (inr (i, omega arith))
order (suc i) (suc j) = more (order i j)
  where
    more : (i ≡ j) ⊎ (((d : ℕ) × (j ≡ i + suc d)) ⊎ ((d : ℕ) × (i ≡ j + suc d)))
        → (suc i ≡ suc j) ⊎ (((d : ℕ) × (suc j ≡ suc i + suc d)) ⊎ ((d : ℕ) × (suc i ≡ suc j + suc d)))
    more (inl e) = inl (omega (arith, e))
    more (inr (inl (d, e))) = inr (inl (d, omega (arith, e)))
    more (inr (inr (d, e))) = inr (inr (d, omega (arith, e)))

later_differs : (ks : List ℕ) → IsStrictlyIncreasing ks → (i d n : ℕ) → slice_get ks i ≡ Some n
    → slice_get ks (i + suc d) ≡ Some n → ⊥
later_differs ks rising i d n here there =
    let one = stands ks i n here in
    let other = stands ks (i + suc d) n there in
    let less = rises ks rising d i other.0 in
    omega (arith, less, one.1, other.1)

-- rising numbers stand once each
pub rising_apart : (ks : List ℕ) → IsStrictlyIncreasing ks → (i j n : ℕ) → slice_get ks i ≡ Some n
    → slice_get ks j ≡ Some n → i ≡ j
rising_apart ks rising i j n here there = cases (order i j)
  where
    cases : (i ≡ j) ⊎ (((d : ℕ) × (j ≡ i + suc d)) ⊎ ((d : ℕ) × (i ≡ j + suc d))) → i ≡ j
    cases (inl e) = e
    cases (inr (inl (d, e))) = absurd (later_differs ks rising i d n here (subst (λ m. slice_get ks m ≡ Some n) e there))
    cases (inr (inr (d, e))) = absurd (later_differs ks rising j d n there (subst (λ m. slice_get ks m ≡ Some n) e here))

pub states_again : (bytes : List ℕ) (e : Export) (n : ℕ) (ks : List ℕ) → export_of bytes ≡ Ok e
    → n < length e.units → IsClosureList e.units n ks
    → export_of (canonical_text (kept_of e.units e.budgets ks))
    ≡ Ok (record { units = units_at e.units ks; budgets = kept_budgets (kept_of e.units e.budgets ks) })
    → StatesAgain e ks (canonical_text (kept_of e.units e.budgets ks))
states_again bytes e n ks read below closure again =
    let clear = spelled_clear e.units (read_spelled bytes e read) in
    record {
      export = record { units = units_at e.units ks; budgets = kept_budgets (kept_of e.units e.budgets ks) };
      spelled = again;
      units_are = refl;
      verdicts = λ p k budget at. listed_verdict e.units n ks closure below clear p k budget at;
      axioms = λ p k m at uses. listed_axioms e.units n ks closure below p k m at uses;
      no_other = λ p k q at uses. axioms_listed e.units n ks closure below p k q at uses;
    }

pub trimmed_again : (bytes : List ℕ) (e : Export) (n : ℕ) (ks : List ℕ) → export_of bytes ≡ Ok e
    → n < length e.units → IsClosureList e.units n ks
    → IsWithinLimits (kept_of e.units e.budgets ks)
    → StatesAgain e ks (canonical_text (kept_of e.units e.budgets ks))
trimmed_again bytes e n ks read below closure within =
    states_again bytes e n ks read below closure
    (read_back e.units e.budgets ks (read_statable bytes e read) (read_budgets bytes e read)
    (rising_apart ks closure.rising) within)
