-- What opening and closing keep.
use Rattle.std.proofs.Common.{ℕ, suc, ◌≡◌, ◌<◌, ◌≤◌, ◌-◌, nat_eq, nat_lt, true, false, Bool, refl, arith}
use Rattle.std.proofs.lemmas.Bool.Decides.{nat_tests}
use Rattle.lk_tree.specs.Tree.{Tree, var, sort, const, app, lam, pi, let_in, proj, lit, wide, str, local}
use Rattle.lk_tree.specs.Bind.{open_at, open_var, close_at, bound}
use Rattle.lk_tree.specs.WellFormed.{IsWellFormedUnder, IsWellFormed}

pub fine_more : (d n : ℕ) (e : Tree) → d ≤ n → IsWellFormedUnder d e → IsWellFormedUnder n e
fine_more d n (var i) h f = omega arith
fine_more d n (sort l) h f = f
fine_more d n (const c ls) h f = f
fine_more d n (app g a) h f = (fine_more d n g h f.0, fine_more d n a h f.1)
fine_more d n (lam A b) h f = (fine_more d n A h f.0, fine_more (suc d) (suc n) b (omega arith) f.1)
fine_more d n (pi A B) h f = (fine_more d n A h f.0, fine_more (suc d) (suc n) B (omega arith) f.1)
fine_more d n (let_in A a b) h f = (fine_more d n A h f.0, fine_more d n a h f.1, fine_more (suc d) (suc n) b (omega arith) f.2)
fine_more d n (proj S i s) h f = fine_more d n s h f
fine_more d n (lit k) h f = f
fine_more d n wide h f = f
fine_more d n (str s) h f = f
fine_more d n (local k T) h f = f

-- the three cases of a variable that is opened
pub data Opening (d i : ℕ) (v : Tree) : Type 0 where
  below : i < d → open_var d v i ≡ var i → Opening d i v
  at : i ≡ d → open_var d v i ≡ v → Opening d i v
  above : d < i → open_var d v i ≡ var (i - 1) → Opening d i v

pub opening : (d i : ℕ) (v : Tree) → Opening d i v
opening d i v = go (nat_lt i d) refl (nat_eq i d) refl
  where
    go : (a : Bool) → nat_lt i d ≡ a → (b : Bool) → nat_eq i d ≡ b → Opening d i v
    go true e b e' = below (grind (arith, nat_tests)) (rw e refl)
    go false e true e' = at (grind (arith, nat_tests)) (rw (e, e') refl)
    go false e false e' = above (grind (arith, nat_tests)) (rw (e, e') refl)

open_var_fine : (d i : ℕ) (v : Tree) → i < suc d → IsWellFormed v → Opening d i v → IsWellFormedUnder d (open_var d v i)
open_var_fine d i v h fv (below l e) = rw e l
open_var_fine d i v h fv (at l e) = rw e (fine_more 0 d v (omega arith) fv)
open_var_fine d i v h fv (above l e) = absurd (omega arith)

pub open_fine : (d : ℕ) (v b : Tree) → IsWellFormedUnder (suc d) b → IsWellFormed v → IsWellFormedUnder d (open_at d v b)
unfolding open_at
open_fine d v (var i) f fv = open_var_fine d i v f fv (opening d i v)
open_fine d v (sort l) f fv = f
open_fine d v (const c ls) f fv = f
open_fine d v (app g a) f fv = (open_fine d v g f.0 fv, open_fine d v a f.1 fv)
open_fine d v (lam A b) f fv = (open_fine d v A f.0 fv, open_fine (suc d) v b f.1 fv)
open_fine d v (pi A B) f fv = (open_fine d v A f.0 fv, open_fine (suc d) v B f.1 fv)
open_fine d v (let_in A a b) f fv = (open_fine d v A f.0 fv, open_fine d v a f.1 fv, open_fine (suc d) v b f.2 fv)
open_fine d v (proj S i s) f fv = open_fine d v s f fv
open_fine d v (lit n) f fv = f
open_fine d v wide f fv = f
open_fine d v (str s) f fv = f
open_fine d v (local k T) f fv = f

var_fine_from : (d i : ℕ) (v : Tree) → IsWellFormedUnder d (open_var d v i) → Opening d i v → i < suc d
var_fine_from d i v f (below l e) = omega arith
var_fine_from d i v f (at l e) = omega arith
var_fine_from d i v f (above l e) = let h : i - 1 < d = rw e at f in omega arith

pub fine_from_open : (d : ℕ) (v b : Tree) → IsWellFormedUnder d (open_at d v b) → IsWellFormedUnder (suc d) b
unfolding open_at
fine_from_open d v (var i) f = var_fine_from d i v f (opening d i v)
fine_from_open d v (sort l) f = f
fine_from_open d v (const c ls) f = f
fine_from_open d v (app g a) f = (fine_from_open d v g f.0, fine_from_open d v a f.1)
fine_from_open d v (lam A b) f = (fine_from_open d v A f.0, fine_from_open (suc d) v b f.1)
fine_from_open d v (pi A B) f = (fine_from_open d v A f.0, fine_from_open (suc d) v B f.1)
fine_from_open d v (let_in A a b) f = (fine_from_open d v A f.0, fine_from_open d v a f.1, fine_from_open (suc d) v b f.2)
fine_from_open d v (proj S i s) f = fine_from_open d v s f
fine_from_open d v (lit n) f = f
fine_from_open d v wide f = f
fine_from_open d v (str s) f = f
fine_from_open d v (local k T) f = f

-- a Local that is closed is the variable or stays
pub data Closing (d k j : ℕ) (T : Tree) : Type 0 where
  closed : j ≡ k → close_at d k (local j T) ≡ var d → Closing d k j T
  stays : (j ≡ k → ⊥) → close_at d k (local j T) ≡ local j T → Closing d k j T

pub closing : (d k j : ℕ) (T : Tree) → Closing d k j T
unfolding close_at
closing d k j T = go (nat_eq j k) refl
  where
    go : (a : Bool) → nat_eq j k ≡ a → Closing d k j T
    go true e = closed (grind (arith, nat_tests)) (rw e refl)
    go false e = stays (λ h. grind (arith, nat_tests)) (rw e refl)

local_close_fine : (d k j : ℕ) (T : Tree) → IsWellFormedUnder d (local j T) → Closing d k j T → IsWellFormedUnder (suc d) (close_at d k (local j T))
local_close_fine d k j T f (closed h e) = rw e (omega arith)
local_close_fine d k j T f (stays h e) = rw e f

pub close_fine : (d k : ℕ) (e : Tree) → IsWellFormedUnder d e → IsWellFormedUnder (suc d) (close_at d k e)
unfolding close_at
close_fine d k (var i) f = omega arith
close_fine d k (sort l) f = f
close_fine d k (const c ls) f = f
close_fine d k (app g a) f = (close_fine d k g f.0, close_fine d k a f.1)
close_fine d k (lam A b) f = (close_fine d k A f.0, close_fine (suc d) k b f.1)
close_fine d k (pi A B) f = (close_fine d k A f.0, close_fine (suc d) k B f.1)
close_fine d k (let_in A a b) f = (close_fine d k A f.0, close_fine d k a f.1, close_fine (suc d) k b f.2)
close_fine d k (proj S i s) f = close_fine d k s f
close_fine d k (lit n) f = f
close_fine d k wide f = f
close_fine d k (str s) f = f
close_fine d k (local j T) f = local_close_fine d k j T f (closing d k j T)

local_close_bound : (d k j : ℕ) (T : Tree) → IsWellFormedUnder d (local j T) → bound (local j T) ≤ suc k → Closing d k j T → bound (close_at d k (local j T)) ≤ k
unfolding bound
local_close_bound d k j T f b (closed h e) = rw e (omega arith)
local_close_bound d k j T f b (stays h e) = rw e (grind (arith, f.1))

-- x, whose number is the greatest, is gone once it is closed
pub close_bound : (d k : ℕ) (e : Tree) → IsWellFormedUnder d e → bound e ≤ suc k → bound (close_at d k e) ≤ k
unfolding close_at bound
close_bound d k (var i) f b = omega arith
close_bound d k (sort l) f b = omega arith
close_bound d k (const c ls) f b = omega arith
close_bound d k (app g a) f b = omega (arith, close_bound d k g f.0 (omega arith), close_bound d k a f.1 (omega arith))
close_bound d k (lam A e) f b = omega (arith, close_bound d k A f.0 (omega arith), close_bound (suc d) k e f.1 (omega arith))
close_bound d k (pi A e) f b = omega (arith, close_bound d k A f.0 (omega arith), close_bound (suc d) k e f.1 (omega arith))
close_bound d k (let_in A a e) f b = omega (arith, close_bound d k A f.0 (omega arith), close_bound d k a f.1 (omega arith), close_bound (suc d) k e f.2 (omega arith))
close_bound d k (proj S i s) f b = close_bound d k s f b
close_bound d k (lit n) f b = omega arith
close_bound d k wide f b = omega arith
close_bound d k (str s) f b = omega arith
close_bound d k (local j T) f b = local_close_bound d k j T f b (closing d k j T)
