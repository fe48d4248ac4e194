-- What is derived while a block is partial is derived after it.
use Rattle.std.proofs.Common.{ℕ, zero, suc, ◌≡◌, ◌+◌, ◌⊎◌, inl, inr, List, [], ◌∷◌, take, Option, Some, None, refl, sym, ap, ◌∙◌, arith}
use Rattle.std.specs.Prelude.{option_and_then, slice_get}
use Rattle.lk_tree.specs.Tree.{Name}
use Rattle.lk_rulebook.specs.Place.{Entry}
use Rattle.lk_rulebook.specs.Units.{Members, LibraryUnit, Found, given_by, first_of_two, at_unit, first_giving, flawless, place_of, at_partial, members_of, flaw_of}
use Rattle.lk_inductive.specs.Grows.{IsWithin, RulesCome, Completes}

first_alone : (o : Option Found) → first_of_two o None ≡ o
first_alone (Some f) = refl
first_alone None = refl

first_assoc : (a b c : Option Found) → first_of_two a (first_of_two b c) ≡ first_of_two (first_of_two a b) c
first_assoc (Some f) b c = refl
first_assoc None b c = refl

unit_is : {a b : LibraryUnit} → Some a ≡ Some b → a ≡ b
unit_is e = cc

-- one unit more
one_more : (i n : ℕ) (us : List LibraryUnit) (u : LibraryUnit) (c : Name) → slice_get us n ≡ Some u →
    first_giving i (take (suc n) us) c ≡ first_of_two (first_giving i (take n us) c) (at_unit (i + n) u (given_by (members_of u) c))
one_more i n [] u c e = absurd cc
one_more i zero (x ∷ us) u c e =
    let s : x ≡ u = unit_is e in
    first_alone (at_unit i x (given_by (members_of x) c)) ∙ (ap (λ y. at_unit i y (given_by (members_of y) c)) s ∙ ap (λ j. at_unit j u (given_by (members_of u) c)) (omega arith))
one_more i (suc n) (x ∷ us) u c e =
    ap (first_of_two (at_unit i x (given_by (members_of x) c))) (one_more (suc i) n us u c e)
    ∙ (first_assoc (at_unit i x (given_by (members_of x) c)) (first_giving (suc i) (take n us) c) (at_unit (suc i + n) u (given_by (members_of u) c))
    ∙ ap (λ j. first_of_two (first_of_two (at_unit i x (given_by (members_of x) c)) (first_giving (suc i) (take n us) c)) (at_unit j u (given_by (members_of u) c))) (omega arith))

entry_is : {a b : Entry} → Some a ≡ Some b → a ≡ b
entry_is e = cc

found_by : (o : Option Found) (e : Entry) → option_and_then flawless o ≡ Some e → (f : Found) × (o ≡ Some f)
found_by (Some f) e h = (f, refl)
found_by None e h = absurd cc

-- u is unit n, has no flaw, and gives no name that an earlier unit gives
pub after_within : (us : List LibraryUnit) (n : ℕ) (u : LibraryUnit) (h : Members) → slice_get us n ≡ Some u → flaw_of u ≡ None → Completes h (members_of u) →
    ((c : Name) (e : Entry) → given_by (members_of u) c ≡ Some e → first_giving 0 (take n us) c ≡ None) →
    IsWithin (place_of us n h) (place_of us (suc n) [])
after_within us n u h at fine full fresh c e m = go (given_by h c) refl m
  where
    later : (x : Entry) → given_by (members_of u) c ≡ Some x → (place_of us (suc n) []).means c ≡ Some x
    later x g = ap (option_and_then flawless) (one_more 0 n us u c at)
        ∙ (ap (λ o. option_and_then flawless (first_of_two o (at_unit (0 + n) u (given_by (members_of u) c)))) (fresh c x g)
        ∙ (ap (λ o. option_and_then flawless (at_unit (0 + n) u o)) g
        ∙ ap (λ y. option_and_then flawless (Some (record { unit = 0 + n; flaw = y; entry = x }))) fine))

    go : (g : Option Entry) → given_by h c ≡ g → option_and_then flawless (first_of_two (at_partial n g) (first_giving 0 (take n us) c)) ≡ Some e →
        ((place_of us (suc n) []).means c ≡ Some e) ⊎ ((e' : Entry) × ((place_of us (suc n) []).means c ≡ Some e') × RulesCome e e')
    go (Some x) g k = elim (full c e (g ∙ k)) [
      | inl y ↦ inl (later e y)
      | inr y ↦ inr (y.0, later y.0 y.1, y.2)
    ]
    go None g k =
        let there : (f : Found) × (first_giving 0 (take n us) c ≡ Some f) = found_by (first_giving 0 (take n us) c) e k in
        inl (ap (option_and_then flawless) (one_more 0 n us u c at)
        ∙ (ap (λ o. option_and_then flawless (first_of_two o (at_unit (0 + n) u (given_by (members_of u) c)))) there.1
        ∙ (ap (option_and_then flawless) (sym there.1) ∙ k)))
