-- A counted list of numbers, read to its end.
use Rattle.std.proofs.Common.{◌≡◌, ◌≤◌, ◌==◌, ◌-◌, ℕ, zero, suc, false, List, [], ◌∷◌, ◌++◌, Ok, Err, refl, ap, arith}
use Rattle.std.proofs.lemmas.Bool.Decides.{nat_tests}
use Rattle.lk_lines.specs.declared.words.Word.TheVariants.{BadCount}
use Rattle.lk_lines.specs.Reading.{◌>>=◌, number_of, numbers_at}
use Rattle.lk_lines.specs.Told.{after_front}

pub append_nil : {A : Type 0} → (xs : List A) → xs ++ [] ≡ xs
append_nil [] = refl
append_nil (x ∷ xs) = ap (λ ys. x ∷ ys) (append_nil xs)

pub numbers_at-zero : (limit : ℕ) (fields : List (List ℕ)) → numbers_at limit 0 fields ≡ Ok ([], fields)
numbers_at-zero limit [] = refl
numbers_at-zero limit (field ∷ fields) = refl

pub numbers_at-none : (limit n : ℕ) → numbers_at limit (suc n) [] ≡ Err BadCount
numbers_at-none limit n = let no : (suc n == 0) ≡ false = grind (arith, nat_tests) in rw no refl

pub numbers_at-suc : (limit n : ℕ) (field : List ℕ) (fields : List (List ℕ))
    → numbers_at limit (suc n) (field ∷ fields) ≡ number_of limit field >>= λ x. (numbers_at limit n fields >>= λ more. Ok (x ∷ more.0, more.1))
numbers_at-suc limit n field fields =
    let no : (suc n == 0) ≡ false = grind (arith, nat_tests) in
    let before : suc n - 1 ≡ n = omega arith in
    rw (no, before) refl

-- where none is left to read, the list is what was found
pub numbers_done : (limit left : ℕ) (found : List ℕ) (fields : List (List ℕ)) → left ≤ 0 → after_front found (numbers_at limit left fields) ≡ Ok (found, fields)
numbers_done limit zero found fields h = rw (numbers_at-zero limit fields, append_nil found) refl
numbers_done limit (suc n) found fields h = absurd (omega arith)
