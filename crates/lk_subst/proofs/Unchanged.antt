-- Trees that a change leaves as they are.
use Rattle.std.proofs.Common.{◌≡◌, ℕ, suc, ◌≤◌, List, refl, ap, arith, false, nat_eq}
use Rattle.std.specs.Prelude.{◌||◌}
use Rattle.std.proofs.lemmas.Bool.Decides.{nat_tests}
use Rattle.lk_tree.specs.Tree.{Tree, var, sort, const, app, lam, pi, let_in, proj, lit, wide, str, local}
use Rattle.lk_tree.specs.Bind.{open_at, close_at, bound}
use Rattle.lk_tree.specs.Loose.{loose}
use Rattle.lk_store.specs.Measures.{has_params}
use Rattle.lk_tree.specs.Tree.{Name, Level}
use Rattle.lk_tree.specs.Levels.{put_levels}
use Rattle.lk_subst.proofs.LevelValues.{put_in_level-closed, put_in_levels-closed, no_left, no_right}
use Rattle.lk_tree.specs.Putting.{put_at}

-- no variable is loose under the binders
pub open_at-closed : (d : ℕ) (v t : Tree) → loose t ≤ d → open_at d v t ≡ t
unfolding open_at
open_at-closed d v (var i) h = grind (arith, nat_tests)
open_at-closed d v (sort l) h = refl
open_at-closed d v (const c ls) h = refl
open_at-closed d v (app f a) h = let p = open_at-closed d v f (omega arith) in let q = open_at-closed d v a (omega arith) in cc
open_at-closed d v (lam A b) h = let p = open_at-closed d v A (omega arith) in let q = open_at-closed (suc d) v b (omega arith) in cc
open_at-closed d v (pi A b) h = let p = open_at-closed d v A (omega arith) in let q = open_at-closed (suc d) v b (omega arith) in cc
open_at-closed d v (let_in A a b) h = let p = open_at-closed d v A (omega arith) in let r = open_at-closed d v a (omega arith) in let q = open_at-closed (suc d) v b (omega arith) in cc
open_at-closed d v (proj S i s) h = ap (proj S i) (open_at-closed d v s h)
open_at-closed d v (lit n) h = refl
open_at-closed d v wide h = refl
open_at-closed d v (str s) h = refl
open_at-closed d v (local k T) h = refl

pub put_at-closed : (d : ℕ) (vs : List Tree) (t : Tree) → loose t ≤ d → put_at vs d t ≡ t
unfolding put_at
put_at-closed d v (var i) h = grind (arith, nat_tests)
put_at-closed d v (sort l) h = refl
put_at-closed d v (const c ls) h = refl
put_at-closed d v (app f a) h = let p = put_at-closed d v f (omega arith) in let q = put_at-closed d v a (omega arith) in cc
put_at-closed d v (lam A b) h = let p = put_at-closed d v A (omega arith) in let q = put_at-closed (suc d) v b (omega arith) in cc
put_at-closed d v (pi A b) h = let p = put_at-closed d v A (omega arith) in let q = put_at-closed (suc d) v b (omega arith) in cc
put_at-closed d v (let_in A a b) h = let p = put_at-closed d v A (omega arith) in let r = put_at-closed d v a (omega arith) in let q = put_at-closed (suc d) v b (omega arith) in cc
put_at-closed d v (proj S i s) h = ap (proj S i) (put_at-closed d v s h)
put_at-closed d v (lit n) h = refl
put_at-closed d v wide h = refl
put_at-closed d v (str s) h = refl
put_at-closed d v (local k T) h = refl

-- every Local's number is below k
pub close_at-low : (d k : ℕ) (t : Tree) → bound t ≤ k → close_at d k t ≡ t
unfolding close_at bound
close_at-low d k (var i) h = refl
close_at-low d k (sort l) h = refl
close_at-low d k (const c ls) h = refl
close_at-low d k (app f a) h = let p = close_at-low d k f (omega arith) in let q = close_at-low d k a (omega arith) in cc
close_at-low d k (lam A b) h = let p = close_at-low d k A (omega arith) in let q = close_at-low (suc d) k b (omega arith) in cc
close_at-low d k (pi A b) h = let p = close_at-low d k A (omega arith) in let q = close_at-low (suc d) k b (omega arith) in cc
close_at-low d k (let_in A a b) h = let p = close_at-low d k A (omega arith) in let r = close_at-low d k a (omega arith) in let q = close_at-low (suc d) k b (omega arith) in cc
close_at-low d k (proj S i s) h = ap (proj S i) (close_at-low d k s h)
close_at-low d k (lit n) h = refl
close_at-low d k wide h = refl
close_at-low d k (str s) h = refl
close_at-low d k (local j T) h = let e : nat_eq j k ≡ false = grind (arith, nat_tests) in rw e refl

-- no level has a parameter
pub put_levels-closed : (ps : List Name) (ls : List Level) (t : Tree) → has_params t ≡ false → put_levels ps ls t ≡ t
unfolding put_levels
put_levels-closed ps ls (var i) h = refl
put_levels-closed ps ls (sort l) h = ap sort (put_in_level-closed ps ls l h)
put_levels-closed ps ls (const c ms) h = ap (const c) (put_in_levels-closed ps ls ms h)
put_levels-closed ps ls (app f a) h =
    let p = put_levels-closed ps ls f (no_left (has_params f) (has_params a) h) in
    let q = put_levels-closed ps ls a (no_right (has_params f) (has_params a) h) in
    cc
put_levels-closed ps ls (lam f a) h =
    let p = put_levels-closed ps ls f (no_left (has_params f) (has_params a) h) in
    let q = put_levels-closed ps ls a (no_right (has_params f) (has_params a) h) in
    cc
put_levels-closed ps ls (pi f a) h =
    let p = put_levels-closed ps ls f (no_left (has_params f) (has_params a) h) in
    let q = put_levels-closed ps ls a (no_right (has_params f) (has_params a) h) in
    cc
put_levels-closed ps ls (let_in f v a) h =
    let r = no_right (has_params f) (has_params v || has_params a) h in
    let p = put_levels-closed ps ls f (no_left (has_params f) (has_params v || has_params a) h) in
    let m = put_levels-closed ps ls v (no_left (has_params v) (has_params a) r) in
    let q = put_levels-closed ps ls a (no_right (has_params v) (has_params a) r) in
    cc
put_levels-closed ps ls (proj S i s) h = ap (proj S i) (put_levels-closed ps ls s h)
put_levels-closed ps ls (lit n) h = refl
put_levels-closed ps ls wide h = refl
put_levels-closed ps ls (str s) h = refl
put_levels-closed ps ls (local k T) h = ap (local k) (put_levels-closed ps ls T h)

pub ruleset leaves_put_levels = (put_levels-closed)

pub ruleset leaves_closed = (open_at-closed)

pub ruleset leaves_low = (close_at-low)

pub ruleset leaves_put = (put_at-closed)
