-- A part gets its number.
use Rattle.std.proofs.Common.{◌≡◌, ℕ, Bool, true, false, Some, rules, refl, sym, subst, ◌∙◌, inl, inr, ◌⊎◌}
use Rattle.std.specs.Prelude.{cond, IsSome}
use Rattle.std.specs.declared.option.Option.{Option}
use Rattle.std.specs.HashMap.{get}
use Rattle.lk_spell.specs.Numbers.{part_eq, number_in, IsDone, Adds}
use Rattle.lk_spell.specs.Parts.{number_of}
use Rattle.lk_spell.specs.Sizes.{is_within}
use Rattle.lk_spell.specs.declared.part.Part.{Part}
use Rattle.lk_spell.specs.declared.numbers.Numbers.{Numbers}

-- two parts that the test takes for the same are the same
part_exact : (a b : Part) → part_eq a b ≡ true → a ≡ b
part_exact a b h = search rules

part_self : (a : Part) → part_eq a a ≡ true
part_self a = search rules

module _ (old new : Numbers) (p : Part) (n : ℕ) (base : new.base ≡ old.base)
    (here : get part_eq new.own p ≡ Some n)
    (others : (q : Part) → part_eq p q ≡ false → get part_eq new.own q ≡ get part_eq old.own q) where
  -- what the test of the library's sizes gives, and then the map
  of_parts : (q : Part) (b e : Bool) → part_eq p q ≡ e → let f = λ (o : Option ℕ). cond b (Some (number_of q)) o in
      ((r : ℕ) → f (get part_eq new.own q) ≡ Some r → (f (get part_eq old.own q) ≡ Some r) ⊎ ((q ≡ p) × (r ≡ n)))
      × (IsSome (f (get part_eq old.own q)) → IsSome (f (get part_eq new.own q)))
  of_parts q true e is = (λ r h. inl h, λ h. h)
  of_parts q false false is = (λ r h. inl (sym (others q is) ∙ h), λ h. rw (others q is) h)
  of_parts q false true is =
      let same : p ≡ q = part_exact p q is in
      let found : get part_eq new.own q ≡ Some n = subst (λ x. get part_eq new.own x ≡ Some n) same here in
      (λ r h. inr (sym same, (let e : Some r ≡ Some n = sym h ∙ found in cc)), λ h. rw found refl)

  done_in : (b : Bool) → IsSome (cond b (Some (number_of p)) (get part_eq new.own p))
  done_in true = refl
  done_in false = rw here refl

  came : (q : Part) (r : ℕ) → number_in new q ≡ Some r → (number_in old q ≡ Some r) ⊎ ((q ≡ p) × (r ≡ n))
  unfolding number_in
  came q r h = (of_parts q (is_within old.base q) (part_eq p q) refl).0 r (subst (λ s. cond (is_within s q) (Some (number_of q)) (get part_eq new.own q) ≡ Some r) base h)

  stays : (q : Part) → IsDone old q → IsDone new q
  unfolding number_in
  stays q h = subst (λ s. IsSome (cond (is_within s q) (Some (number_of q)) (get part_eq new.own q))) (sym base) ((of_parts q (is_within old.base q) (part_eq p q) refl).1 h)

  there : IsDone new p
  unfolding number_in
  there = done_in (is_within new.base p)

  pub adds : Adds old new p n
  adds = record { came = came; stays = stays; there = there }
