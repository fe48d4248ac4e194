-- Where the first units give a name.
use Rattle.std.proofs.Common.{◌≡◌, ℕ, zero, suc, ◌+◌, ◌≤◌, [], ◌∷◌, take, nat_lt, Option, Some, None, refl, ap, sym, ◌∙◌, arith}
use Rattle.std.proofs.lemmas.Bool.{cond-true, cond-false, lt-ltb, le-ltb}
use Rattle.lk_tree.specs.Tree.{Name}
use Rattle.lk_rulebook.specs.Units.{Library, members_of}
use Rattle.lk_env.specs.Places.{member_in, first_place, at_member, position_in, position_below}

-- no place is before the first unit
pub none_below : (c : Name) (us : Library) (i k : ℕ) → k ≤ i → position_below k (position_in i us c) ≡ None
none_below c [] i k h = refl
none_below c (u ∷ us) i k h = go (member_in 0 (members_of u) c) (none_below c us (suc i) k (omega arith))
  where
    go : (o : Option ℕ) → position_below k (position_in (suc i) us c) ≡ None → position_below k (first_place (at_member i o) (position_in (suc i) us c)) ≡ None
    go None r = r
    go (Some j) r = cond-false (nat_lt i k) (Some (i, j)) None (le-ltb i k h)

below_from : (c : Name) (us : Library) (i n : ℕ) → position_in i (take n us) c ≡ position_below (i + n) (position_in i us c)
below_from c us i zero = sym (none_below c us i (i + zero) (omega arith))
below_from c [] i (suc n) = refl
below_from c (u ∷ us) i (suc n) = go (member_in 0 (members_of u) c) (below_from c us (suc i) n)
  where
    go : (o : Option ℕ) → position_in (suc i) (take n us) c ≡ position_below (suc i + n) (position_in (suc i) us c) → first_place (at_member i o) (position_in (suc i) (take n us) c) ≡ position_below (i + suc n) (first_place (at_member i o) (position_in (suc i) us c))
    go None r = let e : suc i + n ≡ i + suc n = omega arith in r ∙ ap (λ k. position_below k (position_in (suc i) us c)) e
    go (Some j) r = sym (cond-true (nat_lt i (i + suc n)) (Some (i, j)) None (lt-ltb i (i + suc n) (omega arith)))

pub position_before_is : (c : Name) (us : Library) (n : ℕ) → position_in 0 (take n us) c ≡ position_below n (position_in 0 us c)
position_before_is c us n = let e : 0 + n ≡ n = omega arith in below_from c us 0 n ∙ ap (λ k. position_below k (position_in 0 us c)) e
