-- Decimal digits are what is written of a number.
use Rattle.std.proofs.Common.{◌≡◌, ℕ, suc, ◌<◌, ◌^◌, [], true, false, nat_lt, refl, ◌∙◌, arith}
use Rattle.std.specs.Prelude.{decimal}
use Rattle.std.proofs.lemmas.List.{append-nil}
use Rattle.std.proofs.lemmas.Fmt.{PrependsLastDigit, decimal_from_prepends, length-decimal-le_succ}
use Rattle.std.proofs.lemmas.Bool.Decides.{nat_tests}
use Rattle.lk_inductive.specs.Restore.{digits}

prepends : PrependsLastDigit digits
prepends = record {
  one = λ k n rest small. (let t : nat_lt n 10 ≡ true = grind (arith, nat_tests) in rw t refl);
  more = λ k n rest large. (let t : nat_lt n 10 ≡ false = grind (arith, nat_tests) in rw t refl);
}

pub digits_written : (n : ℕ) → n < 2 ^ 64 → digits (suc n) n [] ≡ decimal n
digits_written n small = decimal_from_prepends digits prepends (suc n) n [] small (omega (arith, length-decimal-le_succ n small)) ∙ append-nil (decimal n)
