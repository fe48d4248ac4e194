-- What stands at a place is what the rule book finds.
use Rattle.std.proofs.Common.{◌≡◌, ℕ, zero, suc, ◌+◌, [], ◌∷◌, Option, Some, None, refl, ap, sym, ◌∙◌, arith}
use Rattle.std.specs.Prelude.{option_map, option_and_then, slice_get}
use Rattle.lk_tree.specs.Tree.{Name, name_discrete}
use Rattle.lk_rulebook.specs.Place.{Entry}
use Rattle.lk_rulebook.specs.Units.{Members, LibraryUnit, members_of, Library, Found, flaw_of, given_by, first_of_two, at_unit, first_giving}
use Rattle.lk_env.specs.Places.{member_in, first_place, at_member, position_in, entry_at, found_at}

-- f takes the one to the other, and either both are there or none
abbrev pub AreTogether : {J X : Type 0} → (J → Option X) → Option J → Option X → Type 0
AreTogether f None None = Unit {0}
AreTogether f (Some j) (Some x) = f j ≡ Some x
AreTogether f None (Some x) = ⊥
AreTogether f (Some j) None = ⊥

together_is : {J X : Type 0} (f : J → Option X) (o : Option J) (g : Option X) → AreTogether f o g → g ≡ option_and_then f o
together_is f None None h = refl
together_is f (Some j) (Some x) h = sym h
together_is f None (Some x) h = absurd h
together_is f (Some j) None h = absurd h

-- the first member of the name is the one that gives it
given_at : (c : Name) (i : ℕ) (ms : Members) (f : ℕ → Option (Name × Entry)) → ((k : ℕ) → f (i + k) ≡ slice_get ms k)
    → AreTogether (λ j. option_map (λ (m : Name × Entry). m.1) (f j)) (member_in i ms c) (given_by ms c)
given_at c i [] f h = tt
given_at c i (m ∷ ms) f h = go (name_discrete m.0 c) (given_at c (suc i) ms f (λ k. let same : suc i + k ≡ i + suc k = omega arith in ap f same ∙ h (suc k)))
  where
    here : f i ≡ Some m
    here = let same : i ≡ i + zero = omega arith in ap f same ∙ h zero

    go : (d : Dec (m.0 ≡ c)) → AreTogether (λ j. option_map (λ (m : Name × Entry). m.1) (f j)) (member_in (suc i) ms c) (given_by ms c)
        → AreTogether (λ j. option_map (λ (m : Name × Entry). m.1) (f j)) (elim d as (λ y. Option ℕ) [ yes e ↦ Some i | no n ↦ member_in (suc i) ms c ]) (elim d as (λ y. Option Entry) [ yes e ↦ Some m.1 | no n ↦ given_by ms c ])
    go (yes e) r = ap (option_map (λ (m : Name × Entry). m.1)) here
    go (no n) r = r

given_by_entry : (c : Name) (u : LibraryUnit) → AreTogether (entry_at u) (member_in 0 (members_of u) c) (given_by (members_of u) c)
given_by_entry c u = given_at c 0 (members_of u) (slice_get (members_of u)) (λ k. let same : 0 + k ≡ k = omega arith in ap (slice_get (members_of u)) same)

-- what f has at a place
abbrev found_by : (ℕ → Option LibraryUnit) → ℕ × ℕ → Option Found
found_by f p = option_and_then (λ u. at_unit p.0 u (entry_at u p.1)) (f p.0)

found_from : (c : Name) (i : ℕ) (us : Library) (f : ℕ → Option LibraryUnit) → ((k : ℕ) → f (i + k) ≡ slice_get us k)
    → AreTogether (found_by f) (position_in i us c) (first_giving i us c)
found_from c i [] f h = tt
found_from c i (u ∷ us) f h =
    go (member_in 0 (members_of u) c) (given_by (members_of u) c) (given_by_entry c u)
    (found_from c (suc i) us f (λ k. let same : suc i + k ≡ i + suc k = omega arith in ap f same ∙ h (suc k)))
  where
    here : f i ≡ Some u
    here = let same : i ≡ i + zero = omega arith in ap f same ∙ h zero

    go : (o : Option ℕ) (g : Option Entry) → AreTogether (entry_at u) o g → AreTogether (found_by f) (position_in (suc i) us c) (first_giving (suc i) us c)
        → AreTogether (found_by f) (first_place (at_member i o) (position_in (suc i) us c)) (first_of_two (at_unit i u g) (first_giving (suc i) us c))
    go None None t r = r
    go (Some j) (Some e) t r = ap (option_and_then (λ v. at_unit i v (entry_at v j))) here ∙ ap (at_unit i u) t
    go None (Some e) t r = absurd t
    go (Some j) None t r = absurd t

found_together : (us : Library) (c : Name) → AreTogether (found_at us) (position_in 0 us c) (first_giving 0 us c)
found_together us c = found_from c 0 us (slice_get us) (λ k. let same : 0 + k ≡ k = omega arith in ap (slice_get us) same)

pub found_is : (us : Library) (c : Name) → first_giving 0 us c ≡ option_and_then (found_at us) (position_in 0 us c)
found_is us c = together_is (found_at us) (position_in 0 us c) (first_giving 0 us c) (found_together us c)

unit_found : (us : Library) (p : ℕ × ℕ) (x : Found) → found_at us p ≡ Some x → x.unit ≡ p.0
unit_found us p x h = by_unit (slice_get us p.0) h
  where
    by_entry : (u : LibraryUnit) (o : Option Entry) → at_unit p.0 u o ≡ Some x → x.unit ≡ p.0
    by_entry u None e = absurd cc
    by_entry u (Some y) e = let f : Found = record { unit = p.0; flaw = flaw_of u; entry = y } in let same : f ≡ x = cc in sym (ap (λ (z : Found). z.unit) same)

    by_unit : (o : Option LibraryUnit) → option_and_then (λ u. at_unit p.0 u (entry_at u p.1)) o ≡ Some x → x.unit ≡ p.0
    by_unit None e = absurd cc
    by_unit (Some u) e = by_entry u (entry_at u p.1) e

unit_together : (us : Library) (o : Option (ℕ × ℕ)) (g : Option Found) → AreTogether (found_at us) o g → option_map (λ (x : Found). x.unit) g ≡ option_map (λ (p : ℕ × ℕ). p.0) o
unit_together us None None h = refl
unit_together us (Some p) (Some x) h = ap Some (unit_found us p x h)
unit_together us None (Some x) h = absurd h
unit_together us (Some p) None h = absurd h

pub unit_is : (us : Library) (c : Name) → option_map (λ (x : Found). x.unit) (first_giving 0 us c) ≡ option_map (λ (p : ℕ × ℕ). p.0) (position_in 0 us c)
unit_is us c = unit_together us (position_in 0 us c) (first_giving 0 us c) (found_together us c)
