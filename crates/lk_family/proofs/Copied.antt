-- Copies that are made one after another.
use Rattle.std.proofs.Common.{◌≡◌, List, [], ◌∷◌, ◌++◌, map, All, refl, sym, ap, subst, ◌∙◌, append_assoc, length, arith}
use Rattle.std.proofs.lemmas.List.{append-nil, map-append}
use Rattle.std.proofs.lemmas.List.Elements.{All-head, All-tail, All-nil, All-push}

module _ {X Y : Type 0} (f : X → Y) where
  pub copied_first : (none xs : List X) → none ≡ [] → map f none ++ map f xs ≡ map f xs
  copied_first none xs h = ap (λ c. map f c ++ map f xs) h

  pub copied_next : (copies pushed rest more : List X) (x y : X) (whole : List Y) → rest ≡ x ∷ more → pushed ≡ copies ++ y ∷ [] → f y ≡ f x → map f copies ++ map f rest ≡ whole → map f pushed ++ map f more ≡ whole
  copied_next copies pushed rest more x y whole split push same so_far =
      ap (λ c. map f c ++ map f more) push
      ∙ ap (λ c. c ++ map f more) (map-append f copies (y ∷ []))
      ∙ append_assoc (map f copies) (f y ∷ []) (map f more)
      ∙ ap (λ v. map f copies ++ v ∷ map f more) same
      ∙ sym (ap (λ r. map f copies ++ map f r) split)
      ∙ so_far

  pub copied_all : (copies rest : List X) (whole : List Y) → map f copies ++ map f rest ≡ whole → rest ≡ [] → map f copies ≡ whole
  copied_all copies rest whole so_far none = sym (append-nil (map f copies)) ∙ sym (ap (λ r. map f copies ++ map f r) none) ∙ so_far

-- each of them has what each of the others has
abbrev pub BothHave : {X : Type 0} → (X → Type 0) → List X → List X → List X → Type 0
BothHave P stated copies rest = All P stated → All P copies × All P rest

module _ {X : Type 0} (P : X → Type 0) where
  pub have_first : (stated none : List X) → none ≡ [] → BothHave P stated none stated
  have_first stated none h known = (subst (All P) (sym h) (All-nil P), known)

  pub have_next : (stated copies pushed rest more : List X) (x y : X) → rest ≡ x ∷ more → pushed ≡ copies ++ y ∷ [] → (P x → P y) → BothHave P stated copies rest → BothHave P stated pushed more
  have_next stated copies pushed rest more x y split push same so_far known =
      let both = so_far known in
      let left : All P (x ∷ more) = subst (All P) split both.1 in
      (subst (All P) (sym push) (All-push P copies y both.0 (same (All-head P x more left))), All-tail P x more left)

pub no_rest : {X : Type 0} (xs : List X) → length xs ≡ 0 → xs ≡ []
no_rest [] h = refl
no_rest (x ∷ xs) h = absurd (omega arith)
