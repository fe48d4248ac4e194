-- Rounds of loops.
use Rattle.std.proofs.Common.{◌≡◌, ℕ, zero, suc, ◌+◌, ◌-◌, ◌/◌, ◌%◌, ◌<◌, true, false, sym, ap, ◌∙◌, arith, if◌then◌else◌}
use Rattle.std.specs.Prelude.{nat_eq, nat_lt}
use Rattle.lk_tree.specs.Operations.{euclid, halvings}

-- one round of Euclid's loop
pub euclid_more : (n a b whole : ℕ) → 0 < n → nat_eq b 0 ≡ false → euclid n a b ≡ whole → euclid (n - 1) b (a % b) ≡ whole
unfolding euclid
euclid_more zero a b whole some h e = absurd (omega arith)
euclid_more (suc n) a b whole some h e =
    let m : suc n - 1 ≡ n = omega arith in
    rw m (sym (ap (λ t. if t then a else euclid n b (a % b)) h) ∙ e)

pub euclid_ends : (n a b whole : ℕ) → nat_eq b 0 ≡ true → euclid n a b ≡ whole → a ≡ whole
unfolding euclid
euclid_ends zero a b whole h e = e
euclid_ends (suc n) a b whole h e = sym (ap (λ t. if t then a else euclid n b (a % b)) h) ∙ e

pub euclid_out : (n a b whole : ℕ) → n ≡ 0 → euclid n a b ≡ whole → a ≡ whole
unfolding euclid
euclid_out zero a b whole h e = e
euclid_out (suc n) a b whole h e = absurd (omega arith)

-- one round of halving
pub halvings_more : (n a count whole : ℕ) → 0 < n → nat_lt a 2 ≡ false → count + halvings n a ≡ whole → (count + 1) + halvings (n - 1) (a / 2) ≡ whole
unfolding halvings
halvings_more zero a count whole some h e = absurd (omega arith)
halvings_more (suc n) a count whole some h e =
    let m : suc n - 1 ≡ n = omega arith in
    let one : halvings (suc n) a ≡ suc (halvings n (a / 2)) = ap (λ t. if t then 0 else suc (halvings n (a / 2))) h in
    let all : count + suc (halvings n (a / 2)) ≡ whole = ap (λ k. count + k) (sym one) ∙ e in
    rw m (omega (arith, all))

pub halvings_end : (n a count whole : ℕ) → nat_lt a 2 ≡ true → count + halvings n a ≡ whole → count ≡ whole
unfolding halvings
halvings_end zero a count whole h e = omega (arith, e)
halvings_end (suc n) a count whole h e =
    let all : count + 0 ≡ whole = ap (λ k. count + k) (sym (ap (λ t. if t then 0 else suc (halvings n (a / 2))) h)) ∙ e in
    omega (arith, all)

pub halvings_out : (n a count whole : ℕ) → n ≡ 0 → count + halvings n a ≡ whole → count ≡ whole
unfolding halvings
halvings_out zero a count whole h e = omega (arith, e)
halvings_out (suc n) a count whole h e = absurd (omega arith)
