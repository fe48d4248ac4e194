-- The first unit that gives a name, among fewer units or more.
use Rattle.std.proofs.Common.{ℕ, zero, suc, ◌≡◌, ◌+◌, ◌<◌, ◌≤◌, [], ◌∷◌, take, Some, None, Option, arith}
use Rattle.lk_tree.specs.Tree.{Name}
use Rattle.lk_rulebook.specs.Place.{Entry}
use Rattle.lk_rulebook.specs.Units.{Library, members_of, Found, given_by, first_of_two, at_unit, first_giving}
use Rattle.lk_reach.proofs.Found.{found_from}

-- what a unit below gives first, fewer units give too
fewer_from : (i m n : ℕ) (us : Library) (c : Name) (f : Found) → first_giving i (take m us) c ≡ Some f → f.unit < i + n → first_giving i (take n us) c ≡ Some f
fewer_from i zero n us c f e l = absurd cc
fewer_from i (suc m) n [] c f e l = absurd cc
fewer_from i (suc m) zero (u ∷ us) c f e l = let t = found_from i (u ∷ take m us) c f e in absurd (omega (arith, t.is_at, l))
fewer_from i (suc m) (suc n) (u ∷ us) c f e l = go (given_by (members_of u) c) (fewer_from (suc i) m n us c f) e
  where
    go : (g : Option Entry) → (first_giving (suc i) (take m us) c ≡ Some f → f.unit < suc i + n → first_giving (suc i) (take n us) c ≡ Some f)
        → first_of_two (at_unit i u g) (first_giving (suc i) (take m us) c) ≡ Some f → first_of_two (at_unit i u g) (first_giving (suc i) (take n us) c) ≡ Some f
    go (Some x) r k = k
    go None r k = r k (omega (arith, l))

pub given_fewer : (m n : ℕ) (us : Library) (c : Name) (f : Found) → first_giving 0 (take m us) c ≡ Some f → f.unit < n → first_giving 0 (take n us) c ≡ Some f
given_fewer m n us c f e l = fewer_from 0 m n us c f e (omega (arith, l))

-- what is given first, more units give too
more_from : (i m n : ℕ) (us : Library) (c : Name) (f : Found) → m ≤ n → first_giving i (take m us) c ≡ Some f → first_giving i (take n us) c ≡ Some f
more_from i zero n us c f l e = absurd cc
more_from i (suc m) n [] c f l e = absurd cc
more_from i (suc m) zero (u ∷ us) c f l e = absurd (omega (arith, l))
more_from i (suc m) (suc n) (u ∷ us) c f l e = go (given_by (members_of u) c) (more_from (suc i) m n us c f (omega (arith, l))) e
  where
    go : (g : Option Entry) → (first_giving (suc i) (take m us) c ≡ Some f → first_giving (suc i) (take n us) c ≡ Some f)
        → first_of_two (at_unit i u g) (first_giving (suc i) (take m us) c) ≡ Some f → first_of_two (at_unit i u g) (first_giving (suc i) (take n us) c) ≡ Some f
    go (Some x) r k = k
    go None r k = r k

pub given_more : (m n : ℕ) (us : Library) (c : Name) (f : Found) → m ≤ n → first_giving 0 (take m us) c ≡ Some f → first_giving 0 (take n us) c ≡ Some f
given_more m n us c f l e = more_from 0 m n us c f l e
