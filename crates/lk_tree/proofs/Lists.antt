-- Arguments taken apart.
use Rattle.std.proofs.Common.{ℕ, zero, suc, ◌≡◌, ◌≤◌, ◌⊎◌, inl, inr, List, [], ◌∷◌, length, take, drop, Some, refl, ap, arith}
use Rattle.std.specs.Prelude.{slice_get}
use Rattle.lk_tree.specs.Tree.{Tree, app}
use Rattle.lk_tree.specs.Spine.{apply}
use Rattle.lk_tree.specs.WellFormed.{IsWellFormed, HasLocal, LocalsWithin, AllWellFormed}

-- a Local of one of the arguments
abbrev pub AnyLocal : ℕ → Tree → List Tree → Type 0
AnyLocal k T [] = ⊥
AnyLocal k T (x ∷ xs) = HasLocal k T x ⊎ AnyLocal k T xs

-- each argument has only Locals of e
abbrev pub AllWithin : Tree → List Tree → Type 0
AllWithin e xs = (k : ℕ) (T : Tree) → AnyLocal k T xs → HasLocal k T e

pub fine_take : (n : ℕ) (xs : List Tree) → AllWellFormed xs → AllWellFormed (take n xs)
fine_take zero xs f = tt
fine_take (suc n) [] f = tt
fine_take (suc n) (x ∷ xs) f = (f.0, fine_take n xs f.1)

pub fine_drop : (n : ℕ) (xs : List Tree) → AllWellFormed xs → AllWellFormed (drop n xs)
fine_drop zero xs f = f
fine_drop (suc n) [] f = tt
fine_drop (suc n) (x ∷ xs) f = fine_drop n xs f.1

pub fine_at : (n : ℕ) (xs : List Tree) (x : Tree) → AllWellFormed xs → slice_get xs n ≡ Some x → IsWellFormed x
fine_at n [] x f e = absurd cc
fine_at zero (y ∷ xs) x f e = let i : y ≡ x = cc in rw (← i) f.0
fine_at (suc n) (y ∷ xs) x f e = fine_at n xs x f.1 e

pub any_take : (k : ℕ) (T : Tree) (n : ℕ) (xs : List Tree) → AnyLocal k T (take n xs) → AnyLocal k T xs
any_take k T zero xs h = absurd h
any_take k T (suc n) [] h = h
any_take k T (suc n) (x ∷ xs) (inl h) = inl h
any_take k T (suc n) (x ∷ xs) (inr h) = inr (any_take k T n xs h)

pub any_drop : (k : ℕ) (T : Tree) (n : ℕ) (xs : List Tree) → AnyLocal k T (drop n xs) → AnyLocal k T xs
any_drop k T zero xs h = h
any_drop k T (suc n) [] h = h
any_drop k T (suc n) (x ∷ xs) h = inr (any_drop k T n xs h)

pub any_at : (k : ℕ) (T : Tree) (n : ℕ) (xs : List Tree) (x : Tree) → slice_get xs n ≡ Some x → HasLocal k T x → AnyLocal k T xs
any_at k T n [] x e h = absurd cc
any_at k T zero (y ∷ xs) x e h = let i : y ≡ x = cc in inl (rw i h)
any_at k T (suc n) (y ∷ xs) x e h = inr (any_at k T n xs x e h)

pub local_of_apply : (k : ℕ) (T h : Tree) (xs : List Tree) → HasLocal k T (apply h xs) → HasLocal k T h ⊎ AnyLocal k T xs
local_of_apply k T h [] m = inl m
local_of_apply k T h (x ∷ xs) m = elim (local_of_apply k T (app h x) xs m) [
  | inl l ↦ elim l [ inl a ↦ inl a | inr b ↦ inr (inl b) ]
  | inr r ↦ inr (inr r)
]

pub local_of_head : (k : ℕ) (T h : Tree) (xs : List Tree) → HasLocal k T h → HasLocal k T (apply h xs)
local_of_head k T h [] m = m
local_of_head k T h (x ∷ xs) m = local_of_head k T (app h x) xs (inl m)

pub local_of_arg : (k : ℕ) (T h : Tree) (xs : List Tree) → AnyLocal k T xs → HasLocal k T (apply h xs)
local_of_arg k T h [] m = absurd m
local_of_arg k T h (x ∷ xs) (inl m) = local_of_head k T (app h x) xs (inr m)
local_of_arg k T h (x ∷ xs) (inr m) = local_of_arg k T (app h x) xs m

pub within_applied : (e h : Tree) (xs : List Tree) → LocalsWithin e h → AllWithin e xs → LocalsWithin e (apply h xs)
within_applied e h xs f g k T m = elim (local_of_apply k T h xs m) [ inl l ↦ f k T l | inr r ↦ g k T r ]

-- the arguments before number n, it, and those after it
pub split_at : (n : ℕ) (h x : Tree) (xs : List Tree) → slice_get xs n ≡ Some x → apply (app (apply h (take n xs)) x) (drop (suc n) xs) ≡ apply h xs
split_at n h x [] e = absurd cc
split_at zero h x (y ∷ xs) e = let i : y ≡ x = cc in rw i refl
split_at (suc n) h x (y ∷ xs) e = split_at n (app h y) x xs e

pub length_before : (n : ℕ) (x : Tree) (xs : List Tree) → slice_get xs n ≡ Some x → length (take n xs) ≡ n
length_before n x [] e = absurd cc
length_before zero x (y ∷ xs) e = refl
length_before (suc n) x (y ∷ xs) e = ap suc (length_before n x xs e)

pub length_taken : (n : ℕ) (xs : List Tree) → n ≤ length xs → length (take n xs) ≡ n
length_taken zero xs h = refl
length_taken (suc n) [] h = absurd (omega arith)
length_taken (suc n) (x ∷ xs) h = ap suc (length_taken n xs (omega arith))
