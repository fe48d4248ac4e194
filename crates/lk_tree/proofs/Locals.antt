-- The Locals of what is opened or closed, and bounds.
use Rattle.std.proofs.Common.{ℕ, suc, ◌≡◌, ◌<◌, ◌≤◌, ◌⊎◌, inl, inr, refl, sym, ◌∙◌, arith}
use Rattle.lk_tree.specs.Tree.{Tree, var, sort, const, app, lam, pi, let_in, proj, lit, wide, str, local}
use Rattle.lk_tree.specs.Bind.{open_at, open_var, close_at, bound}
use Rattle.lk_tree.specs.WellFormed.{IsWellFormedUnder, HasLocal, LocalsWithin}
use Rattle.lk_tree.proofs.Binding.{Opening, opening, below, at, above, Closing, closing, closed, stays}

either : {A B C D : Type 0} → (A → C) → (B → D) → A ⊎ B → C ⊎ D
either f g (inl a) = inl (f a)
either f g (inr b) = inr (g b)

-- of one of two parts, or of v
of_two : {A B C D V : Type 0} → (A → C ⊎ V) → (B → D ⊎ V) → A ⊎ B → (C ⊎ D) ⊎ V
of_two f g (inl a) = elim (f a) [ inl c ↦ inl (inl c) | inr v ↦ inr v ]
of_two f g (inr b) = elim (g b) [ inl d ↦ inl (inr d) | inr v ↦ inr v ]

var_local_of_open : (k : ℕ) (T : Tree) (d i : ℕ) (v : Tree) → Opening d i v → HasLocal k T (open_var d v i) → HasLocal k T (var i) ⊎ HasLocal k T v
var_local_of_open k T d i v (below l e) h = absurd (rw e at h)
var_local_of_open k T d i v (at l e) h = inr (rw e at h)
var_local_of_open k T d i v (above l e) h = absurd (rw e at h)

-- a Local of an opened body is one of the body or of what was put in
pub local_of_open : (k : ℕ) (T : Tree) (d : ℕ) (v b : Tree) → HasLocal k T (open_at d v b) → HasLocal k T b ⊎ HasLocal k T v
unfolding open_at
local_of_open k T d v (var i) h = var_local_of_open k T d i v (opening d i v) h
local_of_open k T d v (sort l) h = inl h
local_of_open k T d v (const c ls) h = inl h
local_of_open k T d v (app f a) h = of_two (local_of_open k T d v f) (local_of_open k T d v a) h
local_of_open k T d v (lam A b) h = of_two (local_of_open k T d v A) (local_of_open k T (suc d) v b) h
local_of_open k T d v (pi A b) h = of_two (local_of_open k T d v A) (local_of_open k T (suc d) v b) h
local_of_open k T d v (let_in A a b) h = of_two (local_of_open k T d v A) (of_two (local_of_open k T d v a) (local_of_open k T (suc d) v b)) h
local_of_open k T d v (proj S i s) h = local_of_open k T d v s h
local_of_open k T d v (lit n) h = inl h
local_of_open k T d v wide h = inl h
local_of_open k T d v (str s) h = inl h
local_of_open k T d v (local j S) h = inl h

local_local_of_close : (m : ℕ) (T : Tree) (d k j : ℕ) (S : Tree) → Closing d k j S → HasLocal m T (close_at d k (local j S)) → HasLocal m T (local j S)
local_local_of_close m T d k j S (closed l e) h = absurd (rw e at h)
local_local_of_close m T d k j S (stays l e) h = rw e at h

pub local_of_close : (m : ℕ) (T : Tree) (d k : ℕ) (e : Tree) → HasLocal m T (close_at d k e) → HasLocal m T e
unfolding close_at
local_of_close m T d k (var i) h = h
local_of_close m T d k (sort l) h = h
local_of_close m T d k (const c ls) h = h
local_of_close m T d k (app f a) h = either (local_of_close m T d k f) (local_of_close m T d k a) h
local_of_close m T d k (lam A b) h = either (local_of_close m T d k A) (local_of_close m T (suc d) k b) h
local_of_close m T d k (pi A b) h = either (local_of_close m T d k A) (local_of_close m T (suc d) k b) h
local_of_close m T d k (let_in A a b) h = either (local_of_close m T d k A) (either (local_of_close m T d k a) (local_of_close m T (suc d) k b)) h
local_of_close m T d k (proj S i s) h = local_of_close m T d k s h
local_of_close m T d k (lit n) h = h
local_of_close m T d k wide h = h
local_of_close m T d k (str s) h = h
local_of_close m T d k (local j S) h = local_local_of_close m T d k j S (closing d k j S) h

-- a Local's number is below the bound
pub below_bound : (k : ℕ) (T e : Tree) → HasLocal k T e → k < bound e
unfolding bound
below_bound k T (var i) h = absurd h
below_bound k T (sort l) h = absurd h
below_bound k T (const c ls) h = absurd h
below_bound k T (app f a) (inl h) = omega (arith, below_bound k T f h)
below_bound k T (app f a) (inr h) = omega (arith, below_bound k T a h)
below_bound k T (lam A b) (inl h) = omega (arith, below_bound k T A h)
below_bound k T (lam A b) (inr h) = omega (arith, below_bound k T b h)
below_bound k T (pi A b) (inl h) = omega (arith, below_bound k T A h)
below_bound k T (pi A b) (inr h) = omega (arith, below_bound k T b h)
below_bound k T (let_in A a b) (inl h) = omega (arith, below_bound k T A h)
below_bound k T (let_in A a b) (inr (inl h)) = omega (arith, below_bound k T a h)
below_bound k T (let_in A a b) (inr (inr h)) = omega (arith, below_bound k T b h)
below_bound k T (proj S i s) h = below_bound k T s h
below_bound k T (lit n) h = absurd h
below_bound k T wide h = absurd h
below_bound k T (str s) h = absurd h
below_bound k T (local j S) (inl h) = let e : k ≡ j = h.0 in omega arith
below_bound k T (local j S) (inr h) = omega (arith, below_bound k T S h)

-- and the bound is the least such number
pub bound_least : (n : ℕ) (e : Tree) → ((k : ℕ) (T : Tree) → HasLocal k T e → k < n) → bound e ≤ n
unfolding bound
bound_least n (var i) h = omega arith
bound_least n (sort l) h = omega arith
bound_least n (const c ls) h = omega arith
bound_least n (app f a) h = omega (arith, bound_least n f (λ k T m. h k T (inl m)), bound_least n a (λ k T m. h k T (inr m)))
bound_least n (lam A b) h = omega (arith, bound_least n A (λ k T m. h k T (inl m)), bound_least n b (λ k T m. h k T (inr m)))
bound_least n (pi A b) h = omega (arith, bound_least n A (λ k T m. h k T (inl m)), bound_least n b (λ k T m. h k T (inr m)))
bound_least n (let_in A a b) h = omega (arith, bound_least n A (λ k T m. h k T (inl m)), bound_least n a (λ k T m. h k T (inr (inl m))), bound_least n b (λ k T m. h k T (inr (inr m))))
bound_least n (proj S i s) h = bound_least n s h
bound_least n (lit k) h = omega arith
bound_least n wide h = omega arith
bound_least n (str s) h = omega arith
bound_least n (local j S) h = omega (arith, h j S (inl (refl, refl)), bound_least n S (λ k T m. h k T (inr m)))

-- fewer Locals, no greater bound
pub bound_within : (e v : Tree) → LocalsWithin e v → bound v ≤ bound e
bound_within e v w = bound_least (bound e) v (λ k T m. below_bound k T e (w k T m))

var_reopens : (d i : ℕ) (v : Tree) → i < d → Opening d i v → open_var d v i ≡ var i
var_reopens d i v h (below l e) = e
var_reopens d i v h (at l e) = absurd (omega arith)
var_reopens d i v h (above l e) = absurd (omega arith)

var_filled : (d : ℕ) (v : Tree) → Opening d d v → open_var d v d ≡ v
var_filled d v (below l e) = absurd (omega arith)
var_filled d v (at l e) = e
var_filled d v (above l e) = absurd (omega arith)

local_reopens : (d k j : ℕ) (A S : Tree) → ((T : Tree) → HasLocal k T (local j S) → T ≡ A) → Closing d k j S → open_at d (local k A) (close_at d k (local j S)) ≡ local j S
unfolding open_at
local_reopens d k j A S h (closed i e) = rw e (var_filled d (local k A) (opening d d (local k A)) ∙ rw (i, h S (inl (sym i, refl))) refl)
local_reopens d k j A S h (stays i e) = rw e refl

-- what was closed is opened again with Local(k, A), where the Locals of number k have the type A
pub reopens : (d k : ℕ) (A e : Tree) → IsWellFormedUnder d e → ((T : Tree) → HasLocal k T e → T ≡ A) → open_at d (local k A) (close_at d k e) ≡ e
unfolding open_at close_at
reopens d k A (var i) f h = var_reopens d i (local k A) f (opening d i (local k A))
reopens d k A (sort l) f h = refl
reopens d k A (const c ls) f h = refl
reopens d k A (app g a) f h = rw (reopens d k A g f.0 (λ T m. h T (inl m)), reopens d k A a f.1 (λ T m. h T (inr m))) refl
reopens d k A (lam B b) f h = rw (reopens d k A B f.0 (λ T m. h T (inl m)), reopens (suc d) k A b f.1 (λ T m. h T (inr m))) refl
reopens d k A (pi B b) f h = rw (reopens d k A B f.0 (λ T m. h T (inl m)), reopens (suc d) k A b f.1 (λ T m. h T (inr m))) refl
reopens d k A (let_in B a b) f h =
    rw (reopens d k A B f.0 (λ T m. h T (inl m)), reopens d k A a f.1 (λ T m. h T (inr (inl m))), reopens (suc d) k A b f.2 (λ T m. h T (inr (inr m)))) refl
reopens d k A (proj S i s) f h = rw (reopens d k A s f h) refl
reopens d k A (lit n) f h = refl
reopens d k A wide f h = refl
reopens d k A (str s) f h = refl
reopens d k A (local j S) f h = local_reopens d k j A S h (closing d k j S)
