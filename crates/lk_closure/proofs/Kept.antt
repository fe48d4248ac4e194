-- The kept units of a library give a closed set of names with the same contents.
use Rattle.std.proofs.Common.{ℕ, zero, suc, ◌≡◌, ◌+◌, [], ◌∷◌, take, Some, None, Option, refl, ap, subst, arith, Bool, true, false, if◌then◌else◌}
use Rattle.std.specs.Prelude.{slice_get}
use Rattle.lk_tree.specs.Tree.{Name}
use Rattle.lk_rulebook.specs.Place.{Entry}
use Rattle.lk_rulebook.specs.Units.{LibraryUnit, Library, members_of, Found, given_by, first_of_two, at_unit, flaw_of, first_giving}
use Rattle.lk_closure.proofs.Over.{IsClosureOver, SameFound, IsSeenAlike}
use Rattle.lk_uses.specs.Closure.{kept, renumbered}

pub kept_gives : (i j : ℕ) (keep : ℕ → Bool) (us : Library) (c : Name) → ((f : Found) → first_giving i us c ≡ Some f → keep f.unit ≡ true) →
    SameFound (first_giving i us c) (first_giving j (kept i keep us) c)
kept_gives i j keep [] c h = tt
kept_gives i j keep (u ∷ us) c h = go (given_by (members_of u) c) refl (keep i) refl (λ k r. kept_gives (suc i) k keep us c r) h
  where
    go : (g : Option Entry) → given_by (members_of u) c ≡ g → (b : Bool) → keep i ≡ b →
        ((k : ℕ) → ((f : Found) → first_giving (suc i) us c ≡ Some f → keep f.unit ≡ true) → SameFound (first_giving (suc i) us c) (first_giving k (kept (suc i) keep us) c)) →
        ((f : Found) → first_of_two (at_unit i u g) (first_giving (suc i) us c) ≡ Some f → keep f.unit ≡ true) →
        SameFound (first_of_two (at_unit i u g) (first_giving (suc i) us c)) (first_giving j (if b then u ∷ kept (suc i) keep us else kept (suc i) keep us) c)
    go (Some e) x true y r k = rw x (refl, refl)
    go (Some e) x false y r k = let z : keep i ≡ true = k (record { unit = i; flaw = flaw_of u; entry = e }) refl in absurd cc
    go None x true y r k = rw x (r (suc j) k)
    go None x false y r k = r j k

none_taken : (k : ℕ) → take {A = LibraryUnit} k [] ≡ []
none_taken zero = refl
none_taken (suc k) = refl

-- the kept ones of the first n units
pub kept_take : (i n : ℕ) (keep : ℕ → Bool) (us : Library) → take (renumbered i keep n) (kept i keep us) ≡ kept i keep (take n us)
kept_take i zero keep us = refl
kept_take i (suc n) keep [] = none_taken (renumbered i keep (suc n))
kept_take i (suc n) keep (u ∷ us) = go (keep i) (kept_take (suc i) n keep us)
  where
    go : (b : Bool) → take (renumbered (suc i) keep n) (kept (suc i) keep us) ≡ kept (suc i) keep (take n us) → take (if b then suc (renumbered (suc i) keep n) else renumbered (suc i) keep n) (if b then u ∷ kept (suc i) keep us else kept (suc i) keep us) ≡ (if b then u ∷ kept (suc i) keep (take n us) else kept (suc i) keep (take n us))
    go true r = ap (λ vs. u ∷ vs) r
    go false r = r

-- a kept unit stands at its new number
pub kept_stands : (i n : ℕ) (keep : ℕ → Bool) (us : Library) → keep (i + n) ≡ true → slice_get (kept i keep us) (renumbered i keep n) ≡ slice_get us n
kept_stands i n keep [] h = refl
kept_stands i zero keep (u ∷ us) h =
    let e : i + 0 ≡ i = omega arith in
    go (keep i) (subst (λ x. keep x ≡ true) e h)
  where
    go : (b : Bool) → b ≡ true → slice_get (if b then u ∷ kept (suc i) keep us else kept (suc i) keep us) 0 ≡ Some u
    go true k = refl
    go false k = absurd cc
kept_stands i (suc n) keep (u ∷ us) h =
    let e : i + suc n ≡ suc i + n = omega arith in
    go (keep i) (kept_stands (suc i) n keep us (subst (λ x. keep x ≡ true) e h))
  where
    go : (b : Bool) → slice_get (kept (suc i) keep us) (renumbered (suc i) keep n) ≡ slice_get us n →
        slice_get (if b then u ∷ kept (suc i) keep us else kept (suc i) keep us) (if b then suc (renumbered (suc i) keep n) else renumbered (suc i) keep n) ≡ slice_get us n
    go true k = k
    go false k = k

pub kept_alike : (us : Library) (n : ℕ) (P : Name → Type 0) (keep : ℕ → Bool) → IsClosureOver us n P keep → IsSeenAlike P us n (kept 0 keep us) (renumbered 0 keep n)
kept_alike us n P keep h c p = rw (kept_take 0 n keep us) (kept_gives 0 0 keep (take n us) c (λ f e. h.given c f p e))
