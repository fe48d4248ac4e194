-- A search for an element of a list that has it.
use Rattle.std.proofs.Common.{◌≡◌, ℕ, suc, ◌+◌, inl, inr, List, ◌∷◌, length, ap, sym, subst, ◌∙◌, arith}
use Rattle.std.specs.Prelude.{Contains, Some, slice_get}
use Rattle.lk_derive.proofs.Lists.{contains_cases}

-- it is among these, which stand from this place on
pub record IsSearching {X : Type 0} (xs : List X) (x : X) (rest : List X) (place : ℕ) : Type 0 where
  pub there : Contains rest x
  pub same : (i : ℕ) → slice_get rest i ≡ slice_get xs (place + i)
  pub count : place + length rest ≡ length xs

module _ {X : Type 0} (xs : List X) (x : X) (rest : List X) (place : ℕ) (s : IsSearching xs x rest place) where
  module _ (y : X) (more : List X) (split : rest ≡ y ∷ more) where
    split_same : (i : ℕ) → slice_get (y ∷ more) i ≡ slice_get xs (place + i)
    split_same i = ap (λ zs. slice_get zs i) (sym split) ∙ s.same i

    pub search_more : (y ≡ x → ⊥) → IsSearching xs x more (place + 1)
    search_more other = record {
      there = elim (contains_cases y more x (subst (λ zs. Contains zs x) split s.there)) [ inl e ↦ absurd (other e) | inr h ↦ h ];
      same = λ i. split_same (suc i) ∙ ap (slice_get xs) (let e : place + suc i ≡ place + 1 + i = omega arith in e);
      count = let e : length rest ≡ suc (length more) = ap length split in let f = s.count in omega arith;
    }

    pub search_found : y ≡ x → slice_get xs place ≡ Some x
    search_found e = ap (slice_get xs) (let z : place ≡ place + 0 = omega arith in z) ∙ sym (split_same 0) ∙ ap (λ z. Some z) e
