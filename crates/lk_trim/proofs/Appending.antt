-- Fields are appended one after another.
use Rattle.std.proofs.Common.{◌≡◌, ℕ, List, [], ◌∷◌, ◌++◌, refl, ap, sym, ◌∙◌, append_assoc}
use Rattle.std.specs.Prelude.{decimal}
use Rattle.lk_trim.specs.Written.{fields}
use Rattle.lk_trim.specs.Trees.{hex_fields}

pub fields-append : (ms ns : List ℕ) → fields (ms ++ ns) ≡ fields ms ++ fields ns
fields-append [] ns = refl
fields-append (m ∷ ms) ns =
    ap (λ r. 32 ∷ (decimal m ++ r)) (fields-append ms ns) ∙ ap (λ r. 32 ∷ r) (sym (append_assoc (decimal m) (fields ms) (fields ns)))

-- one more field is written
module _ (f : List ℕ → List ℕ) (one : (x : ℕ) (xs : List ℕ) → f (x ∷ xs) ≡ f (x ∷ []) ++ f xs) where
  pub more : (old new whole : List ℕ) (x : ℕ) (rest xs : List ℕ) → rest ≡ x ∷ xs → new ≡ old ++ f (x ∷ []) → old ++ f rest ≡ whole → new ++ f xs ≡ whole
  more old new whole x rest xs cut pushed h =
      ap (λ r. r ++ f xs) pushed ∙ append_assoc old (f (x ∷ [])) (f xs) ∙ ap (λ r. old ++ r) (sym (one x xs)) ∙ ap (λ r. old ++ f r) (sym cut) ∙ h

pub hex_one : (x : ℕ) (xs : List ℕ) → hex_fields (x ∷ xs) ≡ hex_fields (x ∷ []) ++ hex_fields xs
hex_one x xs = refl

pub fields_one : (x : ℕ) (xs : List ℕ) → fields (x ∷ xs) ≡ fields (x ∷ []) ++ fields xs
fields_one x xs = fields-append (x ∷ []) xs
