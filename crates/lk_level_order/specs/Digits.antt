-- Numbers as choices among the first names: those at whose places the binary digit is 1, the lowest
-- of which is at 0.
use Rattle.std.specs.Prelude.{◌≡◌, ℕ, zero, suc, ◌+◌, ◌*◌, ◌/◌, ◌%◌, ◌<◌, Bool, true, nat_eq}
use Rattle.std.specs.Prelude.{List, [], ◌∷◌}
use Rattle.lk_tree.specs.Tree.{Name}

abbrev pub has_one : ℕ → ℕ → Bool
has_one number zero = nat_eq (number % 2) 1
has_one number (suc n) = has_one (number / 2) n

-- the number with a one at this place
abbrev pub with_one : ℕ → ℕ → ℕ
with_one number zero = 1 + 2 * (number / 2)
with_one number (suc n) = (number % 2) + 2 * with_one (number / 2) n

-- some one of the first k places stands in both
pub record Meet (k x y : ℕ) : Type 0 where
  pub place : ℕ
  pub below : place < k
  pub left : has_one x place ≡ true
  pub right : has_one y place ≡ true

abbrev pub sign : ℕ → ℕ
sign zero = 0
sign (suc n) = 1

-- the case in which the names have these values: those that are above 0
abbrev pub case_of : List Name → (Name → ℕ) → ℕ
case_of [] σ = 0
case_of (n ∷ ns) σ = sign (σ n) + 2 * case_of ns σ
