-- There is one rising list of just the numbers with a property.
use Rattle.std.proofs.Common.{ℕ, zero, suc, ◌≡◌, ◌+◌, ◌<◌, ◌⊎◌, inl, inr, List, [], ◌∷◌, refl, sym, arith, subst}
use Rattle.std.specs.Prelude.{slice_index_or}
use Rattle.std.specs.List.{Contains}
use Rattle.std.specs.List.Sorted.{IsStrictlyIncreasing}
use Rattle.std.proofs.lemmas.List.Kept.{AllPairs-from_increasing}
use Rattle.lk_reach.specs.Axioms.{IsListOf}

-- a number of the list is its first or a later one
pub contains_cases : (x : ℕ) (xs : List ℕ) (k : ℕ) → Contains (x ∷ xs) k → (x ≡ k) ⊎ Contains xs k
contains_cases x xs k (zero, l, e) = inl e
contains_cases x xs k (suc i, l, e) = inr (i, omega (arith, l), e)

pub contains_later : (x : ℕ) (xs : List ℕ) (k : ℕ) → Contains xs k → Contains (x ∷ xs) k
contains_later x xs k h = (suc h.0, omega (arith, h.1), h.2)

-- the first of a rising list is below the others
first_below : (x : ℕ) (xs : List ℕ) → IsStrictlyIncreasing (x ∷ xs) → (k : ℕ) → Contains xs k → x < k
first_below x xs h k c =
    let p : slice_index_or (x ∷ xs) 0 k < slice_index_or (x ∷ xs) (suc c.0) k = AllPairs-from_increasing (x ∷ xs) h 0 (suc c.0) k (omega arith) (omega (arith, c.1)) in
    subst (λ y. x < y) c.2 p

rest_rising : (x : ℕ) (xs : List ℕ) → IsStrictlyIncreasing (x ∷ xs) → IsStrictlyIncreasing xs
rest_rising x xs h = λ k l. let e : suc k + 1 ≡ suc (k + 1) = omega arith in subst (λ n. slice_index_or xs k 0 < slice_index_or (x ∷ xs) n 0) e (h (suc k) (omega (arith, l)))

-- what is left of the one is left of the other
rest_there : (a : ℕ) (as_ : List ℕ) (b : ℕ) (bs : List ℕ) → b ≡ a → IsStrictlyIncreasing (a ∷ as_) → ((k : ℕ) → Contains (a ∷ as_) k → Contains (b ∷ bs) k) → (k : ℕ) → Contains as_ k → Contains bs k
rest_there a as_ b bs e r t k c = elim (contains_cases b bs k (t k (contains_later a as_ k c))) [
  | inl s ↦ absurd (let l : a < k = first_below a as_ r k c in omega (arith, l, e, s))
  | inr d ↦ d
]

firsts_same : (x y : ℕ) (xs ys : List ℕ) → IsStrictlyIncreasing (x ∷ xs) → IsStrictlyIncreasing (y ∷ ys) → (y ≡ x) ⊎ Contains ys x → (x ≡ y) ⊎ Contains xs y → y ≡ x
firsts_same x y xs ys h i (inl e) b = e
firsts_same x y xs ys h i (inr c) (inl e) = sym e
firsts_same x y xs ys h i (inr c) (inr d) = absurd (let l : y < x = first_below y ys i x c in let m : x < y = first_below x xs h y d in omega (arith, l, m))

same_elements : (xs ys : List ℕ) → IsStrictlyIncreasing xs → IsStrictlyIncreasing ys → ((k : ℕ) → Contains xs k → Contains ys k) → ((k : ℕ) → Contains ys k → Contains xs k) → xs ≡ ys
same_elements [] [] h i f g = refl
same_elements [] (y ∷ ys) h i f g = let c : Contains [] y = g y (0, omega arith, refl) in absurd (omega (arith, c.1))
same_elements (x ∷ xs) [] h i f g = let c : Contains [] x = f x (0, omega arith, refl) in absurd (omega (arith, c.1))
same_elements (x ∷ xs) (y ∷ ys) h i f g =
    let e : y ≡ x = firsts_same x y xs ys h i (contains_cases y ys x (f x (0, omega arith, refl))) (contains_cases x xs y (g y (0, omega arith, refl))) in
    let t : xs ≡ ys = same_elements xs ys (rest_rising x xs h) (rest_rising y ys i) (rest_there x xs y ys e h f) (rest_there y ys x xs (sym e) i g) in
    rw (e, t) refl

pub one_list : (P : ℕ → Type 0) (ks js : List ℕ) → IsListOf P ks → IsListOf P js → ks ≡ js
one_list P ks js h i = same_elements ks js h.rising i.rising (λ k c. i.all k (h.each k c)) (λ k c. h.all k (i.each k c))
