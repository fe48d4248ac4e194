-- Trees whose Locals are all Locals of another.
use Rattle.std.proofs.Common.{ℕ, suc, ◌≡◌, ◌<◌, ◌≤◌, ◌⊎◌, inl, inr, List, [], ◌∷◌, refl, ap, ◌∙◌, arith}
use Rattle.lk_tree.specs.Tree.{Name, Level, Tree, var, sort, const, app, lam, pi, let_in, proj, lit, wide, str, local}
use Rattle.lk_tree.specs.Bind.{opened, close, bound}
use Rattle.lk_tree.specs.Levels.{put_levels}
use Rattle.lk_tree.specs.Spine.{apply, head, args}
use Rattle.lk_tree.specs.WellFormed.{IsWellFormedUnder, IsWellFormed, HasLocal, LocalsWithin}
use Rattle.lk_tree.proofs.Binding.{close_bound}
use Rattle.lk_tree.proofs.Locals.{local_of_open, local_of_close, below_bound, bound_least, reopens}
use Rattle.lk_tree.proofs.Spines.{apply_append}

pub within_refl : (e : Tree) → LocalsWithin e e
within_refl e k T h = h

pub within_trans : (e v u : Tree) → LocalsWithin e v → LocalsWithin v u → LocalsWithin e u
within_trans e v u f g k T h = f k T (g k T h)

pub within_open : (e b v : Tree) → LocalsWithin e b → LocalsWithin e v → LocalsWithin e (opened b v)
within_open e b v f g k T h = elim (local_of_open k T 0 v b h) [ inl x ↦ f k T x | inr x ↦ g k T x ]

pub within_apply : (h h' : Tree) (xs : List Tree) → LocalsWithin h h' → LocalsWithin (apply h xs) (apply h' xs)
within_apply h h' [] f = f
within_apply h h' (a ∷ xs) f = within_apply (app h a) (app h' a) xs (λ k T. elim [ inl x ↦ inl (f k T x) | inr x ↦ inr x ])

pub apply_head_args : (e : Tree) → apply (head e) (args e) ≡ e
unfolding head args
apply_head_args (app f a) = apply_append (head f) (args f) (a ∷ []) ∙ ap (λ h. app h a) (apply_head_args f)
apply_head_args (var i) = refl
apply_head_args (sort l) = refl
apply_head_args (const c ls) = refl
apply_head_args (lam A b) = refl
apply_head_args (pi A B) = refl
apply_head_args (let_in A v b) = refl
apply_head_args (proj S i s) = refl
apply_head_args (lit n) = refl
apply_head_args wide = refl
apply_head_args (str s) = refl
apply_head_args (local k T) = refl

-- a tree without Locals
pub no_local : (e v : Tree) → bound v ≡ 0 → LocalsWithin e v
no_local e v z k T h = let l : k < bound v = below_bound k T v h in absurd (omega arith)

pub bound_put_levels : (ps : List Name) (ls : List Level) (e : Tree) → bound (put_levels ps ls e) ≡ bound e
unfolding bound put_levels
bound_put_levels ps ls (var i) = refl
bound_put_levels ps ls (sort l) = refl
bound_put_levels ps ls (const c ms) = refl
bound_put_levels ps ls (app f a) = rw (bound_put_levels ps ls f, bound_put_levels ps ls a) refl
bound_put_levels ps ls (lam A b) = rw (bound_put_levels ps ls A, bound_put_levels ps ls b) refl
bound_put_levels ps ls (pi A b) = rw (bound_put_levels ps ls A, bound_put_levels ps ls b) refl
bound_put_levels ps ls (let_in A a b) = rw (bound_put_levels ps ls A, bound_put_levels ps ls a, bound_put_levels ps ls b) refl
bound_put_levels ps ls (proj S i s) = bound_put_levels ps ls s
bound_put_levels ps ls (lit n) = refl
bound_put_levels ps ls wide = refl
bound_put_levels ps ls (str s) = refl
bound_put_levels ps ls (local k T) = rw (bound_put_levels ps ls T) refl

pub fine_put_levels : (ps : List Name) (ls : List Level) (d : ℕ) (e : Tree) → IsWellFormedUnder d e → IsWellFormedUnder d (put_levels ps ls e)
unfolding put_levels
fine_put_levels ps ls d (var i) f = f
fine_put_levels ps ls d (sort l) f = f
fine_put_levels ps ls d (const c ms) f = f
fine_put_levels ps ls d (app g a) f = (fine_put_levels ps ls d g f.0, fine_put_levels ps ls d a f.1)
fine_put_levels ps ls d (lam A b) f = (fine_put_levels ps ls d A f.0, fine_put_levels ps ls (suc d) b f.1)
fine_put_levels ps ls d (pi A b) f = (fine_put_levels ps ls d A f.0, fine_put_levels ps ls (suc d) b f.1)
fine_put_levels ps ls d (let_in A a b) f = (fine_put_levels ps ls d A f.0, fine_put_levels ps ls d a f.1, fine_put_levels ps ls (suc d) b f.2)
fine_put_levels ps ls d (proj S i s) f = fine_put_levels ps ls d s f
fine_put_levels ps ls d (lit n) f = f
fine_put_levels ps ls d wide f = f
fine_put_levels ps ls d (str s) f = f
fine_put_levels ps ls d (local k T) f = (fine_put_levels ps ls 0 T f.0, rw (bound_put_levels ps ls T) f.1)

-- A binder A, b is opened with x = Local(k, A), k above all in it, and B has only Locals of the opened body. Once x is
-- closed in B, no Local is at or above k, and each Local is one of A or b.
pub closed_bound : (k : ℕ) (A b B : Tree) → bound A ≤ k → bound b ≤ k → IsWellFormed B → LocalsWithin (opened b (local k A)) B → bound (close k B) ≤ k
closed_bound k A b B hA hb f w =
    close_bound 0 k B f (bound_least (suc k) B (λ j T m. small j T (local_of_open j T 0 (local k A) b (w j T m))))
  where
    small : (j : ℕ) (T : Tree) → HasLocal j T b ⊎ HasLocal j T (local k A) → j < suc k
    small j T (inl m) = omega (arith, below_bound j T b m)
    small j T (inr (inl e)) = let i : j ≡ k = e.0 in omega arith
    small j T (inr (inr m)) = omega (arith, below_bound j T A m)

pub closed_within : (k : ℕ) (A b B : Tree) → bound A ≤ k → bound b ≤ k → IsWellFormed B → LocalsWithin (opened b (local k A)) B →
    (j : ℕ) (T : Tree) → HasLocal j T (close k B) → HasLocal j T A ⊎ HasLocal j T b
closed_within k A b B hA hb f w j T m =
    go (below_bound j T (close k B) m) (local_of_open j T 0 (local k A) b (w j T (local_of_close j T 0 k B m)))
  where
    go : j < bound (close k B) → HasLocal j T b ⊎ HasLocal j T (local k A) → HasLocal j T A ⊎ HasLocal j T b
    go l (inl m) = inr m
    go l (inr (inl e)) = let i : j ≡ k = e.0 in absurd (omega (arith, closed_bound k A b B hA hb f w))
    go l (inr (inr m)) = inl m

-- x is the only Local of B with its number, so B is what was closed opened again with x
pub closed_reopens : (k : ℕ) (A b B : Tree) → bound A ≤ k → bound b ≤ k → IsWellFormed B → LocalsWithin (opened b (local k A)) B → opened (close k B) (local k A) ≡ B
closed_reopens k A b B hA hb f w = reopens 0 k A B f (λ T m. only T (local_of_open k T 0 (local k A) b (w k T m)))
  where
    only : (T : Tree) → HasLocal k T b ⊎ HasLocal k T (local k A) → T ≡ A
    only T (inl m) = absurd (omega (arith, below_bound k T b m))
    only T (inr (inl e)) = e.1
    only T (inr (inr m)) = absurd (omega (arith, below_bound k T A m))
