-- The unit in which a name is found.
use Rattle.std.proofs.Common.{ℕ, zero, suc, ◌≡◌, ◌+◌, ◌<◌, [], ◌∷◌, take, Some, None, Option, refl, ap, arith}
use Rattle.std.specs.Prelude.{slice_get}
use Rattle.lk_tree.specs.Tree.{Name}
use Rattle.lk_rulebook.specs.Place.{Entry}
use Rattle.lk_rulebook.specs.Units.{LibraryUnit, Library, members_of, Found, given_by, first_of_two, at_unit, flaw_of, first_giving}

-- f is of the unit that stands at its number, where the first of us has number i
pub record IsFrom (i : ℕ) (us : Library) (c : Name) (f : Found) : Type 0 where
  pub number : ℕ
  pub unit : LibraryUnit
  pub is_at : f.unit ≡ i + number
  pub stands : slice_get us number ≡ Some unit
  pub gives : given_by (members_of unit) c ≡ Some f.entry
  pub flaw : f.flaw ≡ flaw_of unit

pub found_from : (i : ℕ) (us : Library) (c : Name) (f : Found) → first_giving i us c ≡ Some f → IsFrom i us c f
found_from i [] c f e = absurd cc
found_from i (u ∷ us) c f e = go (given_by (members_of u) c) refl (found_from (suc i) us c f) e
  where
    go : (g : Option Entry) → given_by (members_of u) c ≡ g → (first_giving (suc i) us c ≡ Some f → IsFrom (suc i) us c f) → first_of_two (at_unit i u g) (first_giving (suc i) us c) ≡ Some f → IsFrom i (u ∷ us) c f
    go (Some x) j r k =
        let q : record { unit = i; flaw = flaw_of u; entry = x } ≡ f = cc in
        let at : i ≡ f.unit = ap (λ y. y.unit) q in
        let it : x ≡ f.entry = ap (λ y. y.entry) q in
        let why : flaw_of u ≡ f.flaw = ap (λ y. y.flaw) q in
        record { number = 0; unit = u; is_at = omega (arith, at); stands = refl; gives = rw (← it) j; flaw = rw why refl }
    go None j r k =
        let t : IsFrom (suc i) us c f = r k in
        record { number = suc t.number; unit = t.unit; is_at = omega (arith, t.is_at); stands = t.stands; gives = t.gives; flaw = t.flaw }

pub taken : (n k : ℕ) (us : Library) (u : LibraryUnit) → slice_get (take n us) k ≡ Some u → slice_get us k ≡ Some u
taken zero k us u e = absurd cc
taken (suc n) k [] u e = e
taken (suc n) zero (v ∷ us) u e = e
taken (suc n) (suc k) (v ∷ us) u e = taken n k us u e

pub taken_below : (n k : ℕ) (us : Library) (u : LibraryUnit) → slice_get (take n us) k ≡ Some u → k < n
taken_below zero k us u e = absurd cc
taken_below (suc n) k [] u e = absurd cc
taken_below (suc n) zero (v ∷ us) u e = omega arith
taken_below (suc n) (suc k) (v ∷ us) u e = omega (arith, taken_below n k us u e)

pub still_taken : (n k : ℕ) (us : Library) → k < n → slice_get (take n us) k ≡ slice_get us k
still_taken zero k us h = absurd (omega arith)
still_taken (suc n) k [] h = refl
still_taken (suc n) zero (v ∷ us) h = refl
still_taken (suc n) (suc k) (v ∷ us) h = still_taken n k us (omega (arith, h))

-- what is found before n stands before n
pub found_below : (n : ℕ) (us : Library) (c : Name) (f : Found) → first_giving 0 (take n us) c ≡ Some f → f.unit < n
found_below n us c f e =
    let t : IsFrom 0 (take n us) c f = found_from 0 (take n us) c f e in
    omega (arith, t.is_at, taken_below n t.number us t.unit t.stands)
