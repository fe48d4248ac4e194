-- From the units in front of unit i to those in front of the next one.
use Rattle.std.proofs.Common.{◌≡◌, ℕ, zero, suc, ◌+◌, ◌-◌, ◌/◌, ◌%◌, ◌≤◌, List, ◌++◌, ap, sym, ◌∙◌, append_assoc, arith}
use Rattle.lk_generator.specs.Generated.{next, number_at, cited_unit, expressions_of, free_expression, beginning, unit_lines, units_to}

front : (i : ℕ) → suc i - 1 ≡ i
front i = omega arith

behind : (i : ℕ) → suc i + 1 - 1 ≡ suc i
behind i = omega arith

pub number_more : (seed i x y : ℕ) → 1 ≤ i → x ≡ number_at seed (i - 1) → y ≡ next x → y ≡ number_at seed (i + 1 - 1)
number_more seed zero x y few is more = absurd (omega arith)
number_more seed (suc i) x y few is more = more ∙ ap next (is ∙ ap (number_at seed) (front i)) ∙ ap (number_at seed) (sym (behind i))

-- the unit that the number draws
pub cited_is : (seed i y : ℕ) → y ≡ number_at seed (i + 1 - 1) → (y / 65536) % i ≡ cited_unit seed i
cited_is seed i y is = let e : i + 1 - 1 ≡ i = omega arith in ap (λ x. (x / 65536) % i) (is ∙ ap (number_at seed) e)

pub free_more : (seed i j e n f : ℕ) → 1 ≤ i → j ≡ cited_unit seed i → e ≡ free_expression seed (i - 1) → n ≡ expressions_of j → f ≡ e + n → f ≡ free_expression seed (i + 1 - 1)
free_more seed zero j e n f few is before count more = absurd (omega arith)
free_more seed (suc i) j e n f few is before count more =
    more ∙ ap (λ k. k + n) (before ∙ ap (free_expression seed) (front i)) ∙ ap (λ k. free_expression seed i + k) (count ∙ ap expressions_of is) ∙ ap (free_expression seed) (sym (behind i))

pub units_more : (seed i j e : ℕ) (old new : List ℕ) → 1 ≤ i → j ≡ cited_unit seed i → e ≡ free_expression seed (i - 1) → old ≡ beginning ++ units_to seed (i - 1) → new ≡ old ++ unit_lines i j e → new ≡ beginning ++ units_to seed (i + 1 - 1)
units_more seed zero j e old new few is free before more = absurd (omega arith)
units_more seed (suc i) j e old new few is free before more =
    more ∙ ap (λ x. x ++ unit_lines (suc i) j e) (before ∙ ap (λ k. beginning ++ units_to seed k) (front i)) ∙ append_assoc beginning (units_to seed i) (unit_lines (suc i) j e)
    ∙ ap (λ k. beginning ++ (units_to seed i ++ unit_lines (suc i) k e)) is ∙ ap (λ k. beginning ++ (units_to seed i ++ unit_lines (suc i) (cited_unit seed (suc i)) k)) (free ∙ ap (free_expression seed) (front i))
    ∙ ap (λ k. beginning ++ units_to seed k) (sym (behind i))
