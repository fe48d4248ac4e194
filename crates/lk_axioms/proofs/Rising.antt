-- Rising lists, by recursion.
use Rattle.std.proofs.Common.{ℕ, zero, suc, ◌≡◌, ◌+◌, ◌<◌, List, [], ◌∷◌, ◌++◌, get_or, subst, arith}
use Rattle.std.specs.List.Sorted.{IsStrictlyIncreasing}

-- each number is below the next one
abbrev pub Rises : List ℕ → Type 0
Rises [] = Unit {0}
Rises (x ∷ []) = Unit {0}
Rises (x ∷ y ∷ ys) = (x < y) × Rises (y ∷ ys)

pub rises_from : (xs : List ℕ) → IsStrictlyIncreasing xs → Rises xs
rises_from [] h = tt
rises_from (x ∷ []) h = tt
rises_from (x ∷ y ∷ ys) h = (h 0 (omega arith), rises_from (y ∷ ys) rest)
  where
    rest : IsStrictlyIncreasing (y ∷ ys)
    rest = λ k l. let e : suc k + 1 ≡ suc (k + 1) = omega arith in subst (λ n. get_or (y ∷ ys) k 0 < get_or (x ∷ y ∷ ys) n 0) e (h (suc k) (omega (arith, l)))

pub rising : (xs : List ℕ) → Rises xs → IsStrictlyIncreasing xs
rising [] h = λ k l. absurd (omega (arith, l))
rising (x ∷ []) h = λ k l. absurd (omega (arith, l))
rising (x ∷ y ∷ ys) h = go (rising (y ∷ ys) h.1)
  where
    go : IsStrictlyIncreasing (y ∷ ys) → IsStrictlyIncreasing (x ∷ y ∷ ys)
    go r zero l = h.0
    go r (suc k) l = let e : suc (k + 1) ≡ suc k + 1 = omega arith in subst (λ n. get_or (y ∷ ys) k 0 < get_or (x ∷ y ∷ ys) n 0) e (r k (omega (arith, l)))

-- up to a number
pub rises_front : (xs : List ℕ) (y : ℕ) (ys : List ℕ) → Rises (xs ++ y ∷ ys) → Rises (xs ++ y ∷ [])
rises_front [] y ys h = tt
rises_front (x ∷ []) y ys h = (h.0, tt)
rises_front (x ∷ z ∷ xs) y ys h = (h.0, rises_front (z ∷ xs) y ys h.1)

-- from a place on
pub rises_back : (xs ys : List ℕ) → Rises (xs ++ ys) → Rises ys
rises_back [] ys h = h
rises_back (x ∷ []) [] h = tt
rises_back (x ∷ []) (y ∷ ys) h = h.1
rises_back (x ∷ z ∷ xs) ys h = rises_back (z ∷ xs) ys h.1

-- one list after another
pub rises_on : (xs : List ℕ) (x y : ℕ) (ys : List ℕ) → Rises (xs ++ x ∷ []) → x < y → Rises (y ∷ ys) → Rises (xs ++ x ∷ y ∷ ys)
rises_on [] x y ys h l r = (l, r)
rises_on (a ∷ []) x y ys h l r = (h.0, (l, r))
rises_on (a ∷ b ∷ xs) x y ys h l r = (h.0, rises_on (b ∷ xs) x y ys h.1 l r)
