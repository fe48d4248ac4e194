-- A line more at the end: what is found at a place, and what a search finds.
use Rattle.std.proofs.Common.{◌≡◌, ℕ, zero, suc, ◌<◌, Bool, true, false, inl, inr, List, [], ◌∷◌, ◌++◌, length, Option, Some, None, refl, ap, sym, ◌∙◌, arith, append_assoc}
use Rattle.std.specs.Prelude.{◌⊎◌, ◌||◌, nat_eq, slice_get}
use Rattle.lk_members.specs.Lines.{or_next, types_with, block_of, type_here, type_of, ctor_here, ctor_of, recursor_here, recursors_of, is_recursor_here, has_recursor}
use Rattle.lk_members.specs.Stored.{NumberedLine}

pub get_before : {X : Type 0} (xs : List X) (y : X) (i : ℕ) (x : X) → slice_get xs i ≡ Some x → slice_get (xs ++ y ∷ []) i ≡ Some x
get_before [] y i x e = absurd (cc)
get_before (z ∷ xs) y zero x e = e
get_before (z ∷ xs) y (suc i) x e = get_before xs y i x e

pub get_last : {X : Type 0} (xs : List X) (y : X) → slice_get (xs ++ y ∷ []) (length xs) ≡ Some y
get_last [] y = refl
get_last (x ∷ xs) y = get_last xs y

-- a place below the end has what it had
pub get_below : {X : Type 0} (xs : List X) (y : X) (i : ℕ) → i < length xs → slice_get (xs ++ y ∷ []) i ≡ slice_get xs i
get_below [] y i h = absurd (omega arith)
get_below (x ∷ xs) y zero h = refl
get_below (x ∷ xs) y (suc i) h = get_below xs y i (omega arith)

-- a place has what it had, or is the last
pub get_either : {X : Type 0} (xs : List X) (y : X) (i : ℕ) (x : X) → slice_get (xs ++ y ∷ []) i ≡ Some x → (slice_get xs i ≡ Some x) ⊎ ((i ≡ length xs) × (y ≡ x))
get_either [] y zero x e = inr (refl, cc)
get_either [] y (suc i) x e = absurd (cc)
get_either (z ∷ xs) y zero x e = inl e
get_either (z ∷ xs) y (suc i) x e = go (get_either xs y i x e)
  where
    go : (slice_get xs i ≡ Some x) ⊎ ((i ≡ length xs) × (y ≡ x)) → (slice_get xs i ≡ Some x) ⊎ ((suc i ≡ suc (length xs)) × (y ≡ x))
    go (inl h) = inl h
    go (inr h) = inr (ap suc h.0, h.1)

pub next_none : {A : Type 0} (o : Option A) → or_next o None ≡ o
next_none None = refl
next_none (Some a) = refl

next_assoc : {A : Type 0} (o p q : Option A) → or_next o (or_next p q) ≡ or_next (or_next o p) q
next_assoc None p q = refl
next_assoc (Some a) p q = refl

pub type_more : (lines : List NumberedLine) (l : NumberedLine) (n : ℕ) → type_of nat_eq (lines ++ l ∷ []) n ≡ or_next (type_of nat_eq lines n) (type_here nat_eq l.said n)
type_more [] l n = next_none (type_here nat_eq l.said n)
type_more (k ∷ ks) l n = ap (or_next (type_here nat_eq k.said n)) (type_more ks l n) ∙ next_assoc (type_here nat_eq k.said n) (type_of nat_eq ks n) (type_here nat_eq l.said n)

pub ctor_more : (lines : List NumberedLine) (l : NumberedLine) (t n : ℕ) → ctor_of nat_eq (lines ++ l ∷ []) t n ≡ or_next (ctor_of nat_eq lines t n) (ctor_here nat_eq l.said t n)
ctor_more [] l t n = next_none (ctor_here nat_eq l.said t n)
ctor_more (k ∷ ks) l t n = ap (or_next (ctor_here nat_eq k.said t n)) (ctor_more ks l t n) ∙ next_assoc (ctor_here nat_eq k.said t n) (ctor_of nat_eq ks t n) (ctor_here nat_eq l.said t n)

pub block_more : (lines : List NumberedLine) (l : NumberedLine) (n : ℕ) → block_of nat_eq (lines ++ l ∷ []) n ≡ or_next (block_of nat_eq lines n) (types_with nat_eq l.said n)
block_more [] l n = next_none (types_with nat_eq l.said n)
block_more (k ∷ ks) l n = ap (or_next (types_with nat_eq k.said n)) (block_more ks l n) ∙ next_assoc (types_with nat_eq k.said n) (block_of nat_eq ks n) (types_with nat_eq l.said n)

append_none : {A : Type 0} (xs : List A) → xs ++ [] ≡ xs
append_none [] = refl
append_none (x ∷ xs) = ap (λ ys. x ∷ ys) (append_none xs)

pub recursors_more : (lines : List NumberedLine) (l : NumberedLine) (us : List ℕ) → recursors_of nat_eq (lines ++ l ∷ []) us ≡ recursors_of nat_eq lines us ++ recursor_here nat_eq l.said us
recursors_more [] l us = append_none (recursor_here nat_eq l.said us)
recursors_more (k ∷ ks) l us = ap (λ rs. recursor_here nat_eq k.said us ++ rs) (recursors_more ks l us) ∙ sym (append_assoc (recursor_here nat_eq k.said us) (recursors_of nat_eq ks us) (recursor_here nat_eq l.said us))

pub or_false : (b : Bool) → (b || false) ≡ b
or_false true = refl
or_false false = refl

or_assoc : (a b c : Bool) → (a || (b || c)) ≡ ((a || b) || c)
or_assoc true b c = refl
or_assoc false b c = refl

pub has_recursor_more : (lines : List NumberedLine) (l : NumberedLine) (us : List ℕ) (n : ℕ) → has_recursor nat_eq (lines ++ l ∷ []) us n ≡ (has_recursor nat_eq lines us n || is_recursor_here nat_eq l.said us n)
has_recursor_more [] l us n = or_false (is_recursor_here nat_eq l.said us n)
has_recursor_more (k ∷ ks) l us n = ap (λ b. is_recursor_here nat_eq k.said us n || b) (has_recursor_more ks l us n) ∙ or_assoc (is_recursor_here nat_eq k.said us n) (has_recursor nat_eq ks us n) (is_recursor_here nat_eq l.said us n)
