-- What a list contains, by its first element.
use Rattle.std.proofs.Common.{ℕ, zero, suc, ◌≡◌, ◌+◌, ◌<◌, ◌⊎◌, inl, inr, List, [], ◌∷◌, ◌++◌, take, length, get_or, refl, sym, ap, ◌∙◌, append_assoc, arith}
use Rattle.std.specs.List.{Contains, flat_map}
use Rattle.lk_env.proofs.Members.{flat_map_more}

pub contains_first : {X : Type 0} (x : X) (xs : List X) → Contains (x ∷ xs) x
contains_first x xs = (0, omega arith, refl)

pub contains_later : {X : Type 0} (x : X) (xs : List X) (k : X) → Contains xs k → Contains (x ∷ xs) k
contains_later x xs k h = (suc h.0, omega (arith, h.1), h.2)

pub contains_cases : {X : Type 0} (x : X) (xs : List X) (k : X) → Contains (x ∷ xs) k → (x ≡ k) ⊎ Contains xs k
contains_cases x xs k (zero, l, e) = inl e
contains_cases x xs k (suc i, l, e) = inr (i, omega (arith, l), e)

pub contains_none : {X : Type 0} (k : X) → Contains [] k → ⊥
contains_none k h = absurd (omega (arith, h.1))

-- one more list is put behind
pub one_list_at : {X Y : Type 0} (f : X → List Y) (start before after : List Y) (xs : List X) (i : ℕ) (d : X) → i < length xs → before ≡ start ++ flat_map f (take i xs) → after ≡ before ++ f (get_or xs i d) → after ≡ start ++ flat_map f (take (i + 1) xs)
one_list_at f start before after xs i d l so_far pushed =
    let front = flat_map f (take i xs) in
    pushed
    ∙ ap (λ ys. ys ++ f (get_or xs i d)) so_far
    ∙ append_assoc start front (f (get_or xs i d))
    ∙ ap (λ ys. start ++ ys) (sym (flat_map_more f xs i d l))

pub one_list_more : {X Y : Type 0} (f : X → List Y) (start before after : List Y) (xs : List X) (i : ℕ) (x : X) → i < length xs → x ≡ get_or xs i x → before ≡ start ++ flat_map f (take i xs) → after ≡ before ++ f x → after ≡ start ++ flat_map f (take (i + 1) xs)
one_list_more f start before after xs i x l is so_far pushed = one_list_at f start before after xs i x l so_far (pushed ∙ ap (λ y. before ++ f y) is)

-- four lists, one behind the other
pub four_lists : {Y : Type 0} (start a b d e x y z w : List Y) → a ≡ start ++ x → b ≡ a ++ y → d ≡ b ++ z → e ≡ d ++ w → e ≡ start ++ (x ++ (y ++ (z ++ w)))
four_lists start a b d e x y z w first second third fourth =
    fourth
    ∙ ap (λ l. l ++ w) (third ∙ ap (λ l. l ++ z) (second ∙ ap (λ l. l ++ y) first))
    ∙ append_assoc ((start ++ x) ++ y) z w
    ∙ append_assoc (start ++ x) y (z ++ w)
    ∙ append_assoc start x (y ++ (z ++ w))
