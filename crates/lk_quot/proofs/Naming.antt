-- Names component by component, and names compared.
use Rattle.std.proofs.Common.{◌≡◌, ◌↔◌, ℕ, Bool, true, false, List, []}
use Rattle.std.proofs.Common.{◌∷◌, ◌++◌, IsTrue, refl, sym, ap, ◌∙◌}
use Rattle.std.proofs.lemmas.Bool.{false≢true}
use Rattle.std.proofs.lemmas.List.{same_from_push}
use Rattle.lk_tree.specs.Tree.{Name, text, number, name_discrete}
use Rattle.lk_tree.specs.Mentions.{same_name}

-- a name that ends in a text is another such name, by the texts and the names before them
module _ (c n p : Name) (s w : List ℕ) (is : n ++ text s ∷ [] ≡ c) where
  pub ends_alike : s ≡ w → (b : Bool) → IsTrue b ↔ (n ≡ p) → IsTrue b ↔ (c ≡ p ++ text w ∷ [])
  ends_alike e b h = (
    λ on. sym is ∙ ap (λ t. n ++ text t ∷ []) e ∙ ap (λ m. m ++ text w ∷ []) (h.0 on),
    λ i. h.1 (same_from_push n p (text s) (text w) (is ∙ i)).0,
  )

  pub ends_otherwise : (b : Bool) → (IsTrue b → ⊥) → (s ≡ w → ⊥) → IsTrue b ↔ (c ≡ p ++ text w ∷ [])
  ends_otherwise b off other = (
    λ on. absurd (off on),
    λ i.
        let e : text s ≡ text w = (same_from_push n p (text s) (text w) (is ∙ i)).1 in
        absurd (other (cc)),
  )

pub ends_in_number : (c n p : Name) (k : ℕ) (w : List ℕ) → n ++ number k ∷ [] ≡ c
    → IsTrue false ↔ (c ≡ p ++ text w ∷ [])
ends_in_number c n p k w is = (
  λ on. absurd (false≢true on),
  λ i.
      let e : number k ≡ text w = (same_from_push n p (number k) (text w) (is ∙ i)).1 in
      absurd (cc),
)

-- a test that tells whether two names are equal
module _ (c d : Name) where
  pub is_same_name : (b : Bool) → IsTrue b ↔ (c ≡ d) → same_name c d ≡ b
  is_same_name b h = go b h (name_discrete c d)
    where
      go : (b : Bool) → IsTrue b ↔ (c ≡ d) → (r : Dec (c ≡ d))
          → elim r [ yes e ↦ true | no f ↦ false ] ≡ b
      go true h (yes e) = refl
      go false h (yes e) = absurd (false≢true (h.1 e))
      go true h (no f) = absurd (f (h.0 refl))
      go false h (no f) = refl
