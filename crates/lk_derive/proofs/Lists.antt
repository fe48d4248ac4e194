-- Lists.
use Rattle.std.proofs.Common.{◌≡◌, ℕ, zero, suc, ◌⊎◌, inl, inr, List, [], ◌∷◌, ◌++◌, length, map, refl, ap, ◌∙◌, arith}
use Rattle.std.specs.Prelude.{All, Contains, Some, reverse, slice_get}
use Rattle.std.proofs.lemmas.List.{map-append, reverse-append}
use Rattle.std.proofs.lemmas.List.Elements.{All-head, All-tail, All-push}
use Rattle.std.proofs.lemmas.Option.{slice_get_within, slice_get-get_or, get_or_from_slice_get}

pub contains_cases : {X : Type 0} (x : X) (xs : List X) (k : X) → Contains (x ∷ xs) k → (x ≡ k) ⊎ Contains xs k
contains_cases x xs k (zero, l, e) = inl e
contains_cases x xs k (suc i, l, e) = inr (i, omega (arith, l), e)

pub contains_later : {X : Type 0} (x : X) (xs : List X) (k : X) → Contains xs k → Contains (x ∷ xs) k
contains_later x xs k h = (suc h.0, omega (arith, h.1), h.2)

pub contains_at : {X : Type 0} (xs : List X) (i : ℕ) (x : X) → slice_get xs i ≡ Some x → Contains xs x
contains_at xs i x h = (i, slice_get_within xs i x h, get_or_from_slice_get xs i x x h)

pub at_contained : {X : Type 0} (xs : List X) (x : X) (h : Contains xs x) → slice_get xs h.0 ≡ Some x
at_contained xs x h = slice_get-get_or xs h.0 x h.1 ∙ ap Some h.2

pub get-append_left : {X : Type 0} (xs ys : List X) (i : ℕ) (x : X) → slice_get xs i ≡ Some x → slice_get (xs ++ ys) i ≡ Some x
get-append_left [] ys i x e = absurd cc
get-append_left (z ∷ xs) ys zero x e = e
get-append_left (z ∷ xs) ys (suc i) x e = get-append_left xs ys i x e

pub get-push : {X : Type 0} (xs : List X) (x : X) → slice_get (xs ++ (x ∷ [])) (length xs) ≡ Some x
get-push [] x = refl
get-push (y ∷ xs) x = get-push xs x

-- two functions that agree at each element
pub map-same : {X Y : Type 0} (f g : X → Y) (P : X → Type 0) → ((x : X) → P x → f x ≡ g x) → (xs : List X) → All P xs → map f xs ≡ map g xs
map-same f g P e [] h = refl
map-same f g P e (x ∷ xs) h = ap (λ y. y ∷ map f xs) (e x (All-head P x xs h)) ∙ ap (λ ys. g x ∷ ys) (map-same f g P e xs (All-tail P x xs h))

pub map-reverse : {X Y : Type 0} (f : X → Y) (xs : List X) → map f (reverse xs) ≡ reverse (map f xs)
map-reverse f [] = refl
map-reverse f (x ∷ xs) =
    let one : reverse (x ∷ xs) ≡ reverse xs ++ x ∷ [] = reverse-append (x ∷ []) xs in
    let two : reverse (f x ∷ map f xs) ≡ reverse (map f xs) ++ f x ∷ [] = reverse-append (f x ∷ []) (map f xs) in
    rw (one, two, map-append, map-reverse f xs) refl

pub All-reverse : {X : Type 0} (P : X → Type 0) (xs : List X) → All P xs → All P (reverse xs)
All-reverse P [] h = h
All-reverse P (x ∷ xs) h =
    let one : reverse (x ∷ xs) ≡ reverse xs ++ x ∷ [] = reverse-append (x ∷ []) xs in
    rw one (All-push P (reverse xs) x (All-reverse P xs (All-tail P x xs h)) (All-head P x xs h))
