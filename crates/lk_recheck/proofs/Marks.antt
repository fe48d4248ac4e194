-- Marks of what two libraries have otherwise, unit by unit.
use Rattle.std.proofs.Common.{◌≡◌, ◌⊎◌, inl, inr, ℕ, zero, suc, ◌+◌, Bool, true, false}
use Rattle.std.proofs.Common.{List, [], ◌∷◌, ◌++◌, length, Some, refl, ap, sym, ◌∙◌, subst}
use Rattle.std.specs.Prelude.{IsTrue, ◌↔◌, not, slice_get}
use Rattle.std.proofs.lemmas.List.{length_push}
use Rattle.lk_rulebook.specs.Units.{Library}

-- those of the first n numbers
pub record MarksTo (us vs : Library) (n : ℕ) (marks : List Bool) : Type 0 where
  pub changed : (k : ℕ) → slice_get marks k ≡ Some true → slice_get us k ≡ slice_get vs k → ⊥
  pub same : (k : ℕ) → slice_get marks k ≡ Some false → slice_get us k ≡ slice_get vs k
  pub as_many : length marks ≡ n

-- an item of a list with one more is one of the list, or the new one
at_push : (xs : List Bool) (y : Bool) (k : ℕ) (z : Bool) → slice_get (xs ++ y ∷ []) k ≡ Some z
    → (slice_get xs k ≡ Some z) ⊎ ((k ≡ length xs) × (y ≡ z))
at_push [] y zero z e = inr (refl, cc)
at_push [] y (suc k) z e = absurd cc
at_push (x ∷ xs) y zero z e = inl e
at_push (x ∷ xs) y (suc k) z e =
    elim (at_push xs y k z e) [ inl h ↦ inl h | inr h ↦ inr (ap suc h.0, h.1) ]

not_false : (b : Bool) → not b ≡ false → IsTrue b
not_false true e = refl
not_false false e = absurd cc

module _ (us vs : Library) (n : ℕ) (marks : List Bool) (r : Bool)
    (before : MarksTo us vs n marks) (test : IsTrue r ↔ (slice_get us n ≡ slice_get vs n)) where
  changed_here : (k : ℕ) → (k ≡ length marks) × (not r ≡ true)
      → slice_get us k ≡ slice_get vs k → ⊥
  changed_here k h e =
      let here : k ≡ n = h.0 ∙ before.as_many in
      let equal : r ≡ true =
      test.1 (subst (λ (j : ℕ). slice_get us j ≡ slice_get vs j) here e) in
      let other : not true ≡ true = subst (λ (b : Bool). not b ≡ true) equal h.1 in
      absurd cc

  same_here : (k : ℕ) → (k ≡ length marks) × (not r ≡ false)
      → slice_get us k ≡ slice_get vs k
  same_here k h =
      subst (λ (j : ℕ). slice_get us j ≡ slice_get vs j) (sym (h.0 ∙ before.as_many))
      (test.0 (not_false r h.1))

  pub one_marked : MarksTo us vs (n + 1) (marks ++ not r ∷ [])
  one_marked = record {
    changed = λ k e f. elim (at_push marks (not r) k true e) [
      | inl h ↦ before.changed k h f
      | inr h ↦ changed_here k h f
    ];
    same = λ k e. elim (at_push marks (not r) k false e) [
      | inl h ↦ before.same k h
      | inr h ↦ same_here k h
    ];
    as_many = length_push marks (not r) ∙ ap (λ (j : ℕ). j + 1) before.as_many;
  }
