-- Powers that fit, and powers that are too great.
use Rattle.std.proofs.Common.{◌≡◌, ℕ, zero, suc, ◌+◌, ◌-◌, ◌^◌, ◌<◌, ◌≤◌, true, false, Some, None, refl, ap, ◌∙◌, arith, if◌then◌else◌}
use Rattle.std.specs.Prelude.{nat_lt}
use Rattle.std.proofs.lemmas.Bool.Decides.{nat_tests}
use Rattle.std.proofs.Math.Nat.{pow-le-pow_left, pow-le-pow_right}
use Rattle.std.proofs.lemmas.Grind.{pow_more}
use Rattle.lk_op.specs.Ops.{fits}

fits_not : (n : ℕ) → 2 ^ 128 ≤ n → fits n ≡ None
fits_not n h = let no : nat_lt n (2 ^ 128) ≡ false = grind (arith, nat_tests) in ap (λ b. if b then Some n else None) no

fits_is : (n : ℕ) → n < 2 ^ 128 → fits n ≡ Some n
fits_is n h = let yes : nat_lt n (2 ^ 128) ≡ true = grind (arith, nat_tests) in ap (λ b. if b then Some n else None) yes

pub great_power : (a b : ℕ) → 128 ≤ b → 2 ≤ a → fits (a ^ b) ≡ None
great_power a b h k =
    let some : 0 < 2 = omega arith in
    let first : 2 ^ 128 ≤ 2 ^ b = pow-le-pow_right some h in
    let second : 2 ^ b ≤ a ^ b = pow-le-pow_left k b in
    fits_not (a ^ b) (omega arith)

pub one_power : (b : ℕ) → 1 ^ b ≡ 1
one_power zero = refl
one_power (suc b) = let m = pow_more 1 b in let i = one_power b in let e : suc b ≡ b + 1 = omega arith in rw e (rw (m, i) refl)

pub zero_power : (b : ℕ) → 0 ^ (b + 1) ≡ 0
zero_power b = pow_more 0 b ∙ (grind arith)

pub small_power : (a b : ℕ) → 128 ≤ b → a < 2 → fits (a ^ b) ≡ Some a
small_power zero b h k =
    let e : b ≡ (b - 1) + 1 = omega arith in
    let z : 0 ^ b ≡ 0 = ap (λ n. 0 ^ n) e ∙ zero_power (b - 1) in
    ap fits z
small_power (suc zero) b h k = ap fits (one_power b)
small_power (suc (suc a)) b h k = absurd (omega arith)
