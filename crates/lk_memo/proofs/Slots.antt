-- A slot is written, and what is found then.
use Rattle.std.proofs.Common.{◌≡◌, ◌≢◌, ◌⊎◌, inl, inr, ◌<◌, ◌&&◌, nat_eq, ℕ, Bool, true, false, List, length, set, length-set, Option, Some, None, refl, sym, ap, ◌∙◌, subst, arith}
use Rattle.std.specs.Prelude.{slice_get, option_and_then}
use Rattle.std.proofs.Math.Bool.{cond}
use Rattle.std.proofs.lemmas.Option.{slice_get-get_or, slice_get_within, get_or_from_slice_get}
use Rattle.std.proofs.lemmas.List.{get_or-set_same, get_or-set_other}
use Rattle.std.proofs.lemmas.Bool.Decides.{nat_tests}
use Rattle.lk_ask.specs.declared.kept.Kept.{Kept}
use Rattle.lk_memo.specs.declared.key.Key.{Key}
use Rattle.lk_memo.specs.declared.recent.Slot.{Slot}
use Rattle.lk_memo.specs.Keys.{same_key}
use Rattle.lk_memo.specs.Slots.{slot_of, in_slot, found_in}
use Rattle.lk_memo.proofs.Keys.{key_exact, key_refl}

nat_dec : (m n : ℕ) → (m ≡ n) ⊎ (m ≢ n)
nat_dec m n = go (nat_eq m n) refl
  where
    go : (b : Bool) → nat_eq m n ≡ b → (m ≡ n) ⊎ (m ≢ n)
    go true h = inl (grind (arith, nat_tests))
    go false h = inr (λ e. grind (arith, nat_tests))

written : (slots : List Slot) (i : ℕ) (x : Slot) → i < length slots → slice_get (set slots i x) i ≡ Some x
written slots i x l = slice_get-get_or (set slots i x) i x (rw length-set l) ∙ ap Some (get_or-set_same slots i x x l)

elsewhere : (slots : List Slot) (i j : ℕ) (x y : Slot) → j ≢ i → slice_get (set slots i x) j ≡ Some y → slice_get slots j ≡ Some y
elsewhere slots i j x y d e =
    let l : j < length slots = rw length-set at (slice_get_within (set slots i x) j y e) in
    slice_get-get_or slots j y l ∙ ap Some (sym (get_or-set_other slots i j x y d) ∙ get_or_from_slice_get (set slots i x) j y y e)

-- what stands in a slot that was just written
in_written : (era : ℕ) (key k : Key) (kept v : Kept) → in_slot era k (record { era = era; key = key; kept = kept }) ≡ Some v → (k ≡ key) × (v ≡ kept)
in_written era key k kept v h = go (nat_eq era era && same_key key k) refl h
  where
    go : (b : Bool) → (nat_eq era era && same_key key k) ≡ b → cond b (Some kept) None ≡ Some v → (k ≡ key) × (v ≡ kept)
    go true e g = (sym (key_exact key k (both (nat_eq era era) (same_key key k) e)), cc)
      where
        both : (a b : Bool) → (a && b) ≡ true → b ≡ true
        both true b p = p
        both false b p = absurd cc
    go false e g = absurd cc

module _ (slots : List Slot) (era : ℕ) (key : Key) (kept : Kept) (i : ℕ) (is : i ≡ slot_of key (length slots)) (within : i < length slots) where
  abbrev new : List Slot
  new = set slots i (record { era = era; key = key; kept = kept })

  at : (k : Key) → found_in (record { slots = new; era = era }) k ≡ option_and_then (in_slot era k) (slice_get new (slot_of k (length slots)))
  at k = ap (λ n. option_and_then (in_slot era k) (slice_get new (slot_of k n))) (length-set slots i (record { era = era; key = key; kept = kept }))

  some_of : {A B : Type 0} (f : A → Option B) (o : Option A) (b : B) → option_and_then f o ≡ Some b → (a : A) × (o ≡ Some a) × (f a ≡ Some b)
  some_of f (Some a) b h = (a, refl, h)
  some_of f None b h = absurd cc

  -- the answer that was kept is found
  pub kept_there : found_in (record { slots = new; era = era }) key ≡ Some kept
  kept_there =
      let there : slice_get new (slot_of key (length slots)) ≡ Some (record { era = era; key = key; kept = kept }) =
      ap (slice_get new) (sym is) ∙ written slots i _ within in
      let same : nat_eq era era ≡ true = grind (arith, nat_tests) in
      at key ∙ ap (option_and_then (in_slot era key)) there ∙ ap (λ b. cond (b && same_key key key) (Some kept) None) same
      ∙ ap (λ b. cond b (Some kept) None) (key_refl key)

  pub others : (k : Key) (v : Kept) → found_in (record { slots = new; era = era }) k ≡ Some v → (found_in (record { slots = slots; era = era }) k ≡ Some v) ⊎ ((k ≡ key) × (v ≡ kept))
  others k v h =
      let t : (s : Slot) × (slice_get new (slot_of k (length slots)) ≡ Some s) × (in_slot era k s ≡ Some v) =
      some_of (in_slot era k) (slice_get new (slot_of k (length slots))) v (sym (at k) ∙ h) in
      elim (nat_dec (slot_of k (length slots)) i) [
        | inl e ↦
            let w : Some t.0 ≡ Some (record { era = era; key = key; kept = kept }) =
            sym t.1 ∙ (ap (slice_get new) e ∙ written slots i _ within) in
            inr (in_written era key k kept v (subst (λ o. option_and_then (in_slot era k) o ≡ Some v) w t.2))
        | inr d ↦ inl (ap (option_and_then (in_slot era k)) (elsewhere slots i _ _ t.0 d t.1) ∙ t.2)
      ]
