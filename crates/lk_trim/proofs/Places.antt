-- Places in a list that grows, and in the list of what numbers stand for.
use Rattle.std.proofs.Common.{◌≡◌, ℕ, suc, ◌-◌, ◌<◌, List, [], ◌∷◌, ◌++◌, map, length, Option, Some, None, refl, ap, sym, subst, ◌∙◌, arith, get_or, set, inl, inr, get_or-set_same, get_or-set_other}
use Rattle.std.specs.Prelude.{All, option_map}
use Rattle.std.proofs.lemmas.Bool.{cases_eq}
use Rattle.std.proofs.lemmas.List.Elements.{All-head, All-tail}
use native.Mathlib.Decide.{ℕ_discrete}
use Rattle.lk_store.specs.Values.{AreApart}
use Rattle.lk_trim.specs.Written.{place, stands, number_at}
use Rattle.lk_trim.specs.Numbering.{place_in, from_one, AreCells}

-- what a list has at its end
abbrev pub or_last : Option ℕ → ℕ → Option ℕ
or_last (Some i) n = Some i
or_last None n = Some n

abbrev or_else : Option ℕ → Option ℕ → Option ℕ
or_else (Some i) o = Some i
or_else None o = o

module _ {A : Type 0} (d : Discrete A) where
  -- a thing that is put at the end
  pub place_last : (xs : List A) (x : A) → place d (xs ++ x ∷ []) x ≡ or_last (place d xs x) (length xs)
  place_last [] x = go (d x x)
    where
      go : (e : Dec (x ≡ x)) → elim e as (λ y. Option ℕ) [ yes f ↦ Some 0 | no f ↦ option_map suc None ] ≡ Some 0
      go (yes f) = refl
      go (no f) = absurd (f refl)
  place_last (y ∷ ys) x = go (d y x) (place_last ys x)
    where
      later : (o : Option ℕ) → option_map suc (or_last o (length ys)) ≡ or_last (option_map suc o) (suc (length ys))
      later None = refl
      later (Some i) = refl

      go : (e : Dec (y ≡ x)) → place d (ys ++ x ∷ []) x ≡ or_last (place d ys x) (length ys)
          → elim e as (λ y. Option ℕ) [ yes f ↦ Some 0 | no f ↦ option_map suc (place d (ys ++ x ∷ []) x) ] ≡ or_last (elim e as (λ y. Option ℕ) [ yes f ↦ Some 0 | no f ↦ option_map suc (place d ys x) ]) (suc (length ys))
      go (yes f) h = refl
      go (no f) h = ap (option_map suc) h ∙ later (place d ys x)

  -- another one stays where it is
  pub place_other : (xs : List A) (x z : A) → (z ≡ x → ⊥) → place d (xs ++ z ∷ []) x ≡ place d xs x
  place_other [] x z ne = go (d z x)
    where
      go : (e : Dec (z ≡ x)) → elim e as (λ y. Option ℕ) [ yes f ↦ Some 0 | no f ↦ option_map suc None ] ≡ None
      go (yes f) = absurd (ne f)
      go (no f) = refl
  place_other (y ∷ ys) x z ne = go (d y x) (place_other ys x z ne)
    where
      go : (e : Dec (y ≡ x)) → place d (ys ++ z ∷ []) x ≡ place d ys x
          → elim e as (λ y. Option ℕ) [ yes f ↦ Some 0 | no f ↦ option_map suc (place d (ys ++ z ∷ []) x) ] ≡ elim e as (λ y. Option ℕ) [ yes f ↦ Some 0 | no f ↦ option_map suc (place d ys x) ]
      go (yes f) h = refl
      go (no f) h = ap (option_map suc) h

  -- by the numbers of a list of things that are apart
  module _ (none : A) (all : List A) (apart : AreApart none all) where
    pub place_by : (ns : List ℕ) (n : ℕ) → All (λ m. m < length all) ns → n < length all → place d (map (λ i. get_or all i none) ns) (get_or all n none) ≡ place_in ns n
    place_by [] n h l = refl
    place_by (m ∷ ms) n h l = go (d (get_or all m none) (get_or all n none)) (ℕ_discrete m n) (place_by ms n (All-tail (λ i. i < length all) m ms h) l)
      where
        go : (e : Dec (get_or all m none ≡ get_or all n none)) (f : Dec (m ≡ n)) → place d (map (λ i. get_or all i none) ms) (get_or all n none) ≡ place_in ms n
            → elim e as (λ y. Option ℕ) [ yes x ↦ Some 0 | no x ↦ option_map suc (place d (map (λ i. get_or all i none) ms) (get_or all n none)) ] ≡ elim f as (λ y. Option ℕ) [ yes x ↦ Some 0 | no x ↦ option_map suc (place_in ms n) ]
        go (yes x) (yes y) r = refl
        go (no x) (no y) r = ap (option_map suc) r
        go (yes x) (no y) r = absurd (y (apart.apart m n (All-head (λ i. i < length all) m ms h) l x))
        go (no x) (yes y) r = absurd (x (ap (λ i. get_or all i none) y))

  -- where another thing stands first
  pub place_behind : (first : A) (xs : List A) (x : A) → (first ≡ x → ⊥) → place d (first ∷ xs) x ≡ option_map suc (place d xs x)
  place_behind first xs x ne = go (d first x)
    where
      go : (e : Dec (first ≡ x)) → elim e as (λ y. Option ℕ) [ yes f ↦ Some 0 | no f ↦ option_map suc (place d xs x) ] ≡ option_map suc (place d xs x)
      go (yes f) = absurd (ne f)
      go (no f) = refl

  pub place_first : (x : A) (xs : List A) → place d (x ∷ xs) x ≡ Some 0
  place_first x xs = go (d x x)
    where
      go : (e : Dec (x ≡ x)) → elim e as (λ y. Option ℕ) [ yes f ↦ Some 0 | no f ↦ option_map suc (place d xs x) ] ≡ Some 0
      go (yes f) = refl
      go (no f) = absurd (f refl)

pub later_number : (o : Option ℕ) → number_at (option_map suc o) ≡ from_one o
later_number None = refl
later_number (Some i) = refl

pub later_stands : (o : Option ℕ) → stands (option_map suc o) ≡ stands o
later_stands None = refl
later_stands (Some i) = refl

pub earlier_number : (o : Option ℕ) → from_one o - 1 ≡ number_at o
earlier_number None = refl
earlier_number (Some i) = omega arith

-- Cells of a numbering.
module _ (cells noted : List ℕ) (n : ℕ) (h : AreCells cells noted) where
  first_now : (o : Option ℕ) → from_one o ≡ 0 → from_one (or_last o (length noted)) ≡ suc (length noted)
  first_now None e = refl
  first_now (Some i) e = absurd (omega (arith, e))

  first_still : (o : Option ℕ) → (from_one o ≡ 0 → ⊥) → from_one (or_last o (length noted)) ≡ from_one o
  first_still None e = absurd (e refl)
  first_still (Some i) e = refl

  other : (m : ℕ) → (m ≡ n → ⊥) → from_one (place_in (noted ++ n ∷ []) m) ≡ from_one (place_in noted m)
  other m ne = ap from_one (place_other ℕ_discrete noted m n (λ e. ne (sym e)))

  pub cells_set : (p : ℕ) → n < length cells → get_or cells n 0 ≡ 0 → p ≡ suc (length noted) → AreCells (set cells n p) (noted ++ n ∷ [])
  cells_set p l none place_is m = elim (cases_eq m n) [
    | inl e ↦ subst (λ k. get_or (set cells n p) k 0 ≡ from_one (place_in (noted ++ n ∷ []) k)) (sym e) here
    | inr ne ↦ get_or-set_other cells n m p 0 ne ∙ h m ∙ sym (other m ne)
  ]
    where
      here : get_or (set cells n p) n 0 ≡ from_one (place_in (noted ++ n ∷ []) n)
      here = get_or-set_same cells n p 0 l ∙ place_is ∙ sym (first_now (place_in noted n) (sym (h n) ∙ none)) ∙ sym (ap from_one (place_last ℕ_discrete noted n))

  pub cells_kept : (get_or cells n 0 ≡ 0 → ⊥) → AreCells cells (noted ++ n ∷ [])
  cells_kept some m = elim (cases_eq m n) [
    | inl e ↦ subst (λ k. get_or cells k 0 ≡ from_one (place_in (noted ++ n ∷ []) k)) (sym e) here
    | inr ne ↦ h m ∙ sym (other m ne)
  ]
    where
      here : get_or cells n 0 ≡ from_one (place_in (noted ++ n ∷ []) n)
      here = h n ∙ sym (first_still (place_in noted n) (λ z. some (h n ∙ z))) ∙ sym (ap from_one (place_last ℕ_discrete noted n))
