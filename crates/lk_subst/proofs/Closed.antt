-- Locals of runs closed at once, and one after another.
use Rattle.std.proofs.Common.{◌≡◌, ℕ, suc, ◌+◌, ◌-◌, ◌<◌, ◌≤◌, Bool, true, false, nat_eq, nat_lt, refl, ap, sym, ◌∙◌, arith}
use Rattle.std.specs.Prelude.{if◌then◌else◌}
use Rattle.std.proofs.lemmas.Bool.Decides.{nat_tests}
use Rattle.lk_tree.specs.Tree.{Tree, var, sort, const, app, lam, pi, let_in, proj, lit, wide, str, local}
use Rattle.lk_tree.specs.Bind.{close_at, bound}
use Rattle.lk_subst.specs.Runs.{run_var, close_runs_at}

run_var-low : (d j m k : ℕ) (e : Tree) → k < j → run_var d j m k e ≡ e
run_var-low d j m k e h = let f : nat_lt k j ≡ true = grind (arith, nat_tests) in rw f refl

run_var-high : (d j m k : ℕ) (e : Tree) → j + m ≤ k → run_var d j m k e ≡ e
run_var-high d j m k e h =
    let f : nat_lt k j ≡ false = grind (arith, nat_tests) in
    let g : nat_lt k (j + m) ≡ false = grind (arith, nat_tests) in
    rw (f, g) refl

run_var-in : (d j m k i : ℕ) (e : Tree) → j ≤ k → k < j + m → i ≡ d + (j + m - suc k) → run_var d j m k e ≡ var i
run_var-in d j m k i e low high is =
    let f : nat_lt k j ≡ false = grind (arith, nat_tests) in
    let g : nat_lt k (j + m) ≡ true = grind (arith, nat_tests) in
    rw (f, g) (ap var (sym is))

run_var-none : (d j k : ℕ) (e : Tree) → run_var d j 0 k e ≡ e
run_var-none d j k e = go (nat_lt k j) refl
  where
    go : (b : Bool) → nat_lt k j ≡ b → run_var d j 0 k e ≡ e
    go true f = run_var-low d j 0 k e (grind (arith, nat_tests))
    go false f = run_var-high d j 0 k e (grind (arith, nat_tests))

-- every Local's number is below the runs
pub close_runs_at-low : (d i n j m : ℕ) (t : Tree) → bound t ≤ i → bound t ≤ j → close_runs_at d i n j m t ≡ t
unfolding close_runs_at bound
close_runs_at-low d i n j m (var x) g h = refl
close_runs_at-low d i n j m (sort l) g h = refl
close_runs_at-low d i n j m (const c ls) g h = refl
close_runs_at-low d i n j m (app f a) g h = let p = close_runs_at-low d i n j m f (omega arith) (omega arith) in let q = close_runs_at-low d i n j m a (omega arith) (omega arith) in cc
close_runs_at-low d i n j m (lam A b) g h = let p = close_runs_at-low d i n j m A (omega arith) (omega arith) in let q = close_runs_at-low (suc d) i n j m b (omega arith) (omega arith) in cc
close_runs_at-low d i n j m (pi A B) g h = let p = close_runs_at-low d i n j m A (omega arith) (omega arith) in let q = close_runs_at-low (suc d) i n j m B (omega arith) (omega arith) in cc
close_runs_at-low d i n j m (let_in A a b) g h =
    let p = close_runs_at-low d i n j m A (omega arith) (omega arith) in
    let r = close_runs_at-low d i n j m a (omega arith) (omega arith) in
    let q = close_runs_at-low (suc d) i n j m b (omega arith) (omega arith) in
    cc
close_runs_at-low d i n j m (proj S x s) g h = ap (proj S x) (close_runs_at-low d i n j m s g h)
close_runs_at-low d i n j m (lit x) g h = refl
close_runs_at-low d i n j m wide g h = refl
close_runs_at-low d i n j m (str s) g h = refl
close_runs_at-low d i n j m (local k T) g h = ap (run_var d j m k) (run_var-low (d + m) i n k (local k T) (omega arith)) ∙ run_var-low d j m k (local k T) (omega arith)

pub ruleset leaves_runs = (close_runs_at-low)

-- runs of none
pub close_runs_at-none : (d i j : ℕ) (t : Tree) → close_runs_at d i 0 j 0 t ≡ t
unfolding close_runs_at
close_runs_at-none d i j (var x) = refl
close_runs_at-none d i j (sort l) = refl
close_runs_at-none d i j (const c ls) = refl
close_runs_at-none d i j (app f a) = let p = close_runs_at-none d i j f in let q = close_runs_at-none d i j a in cc
close_runs_at-none d i j (lam A b) = let p = close_runs_at-none d i j A in let q = close_runs_at-none (suc d) i j b in cc
close_runs_at-none d i j (pi A B) = let p = close_runs_at-none d i j A in let q = close_runs_at-none (suc d) i j B in cc
close_runs_at-none d i j (let_in A a b) = let p = close_runs_at-none d i j A in let r = close_runs_at-none d i j a in let q = close_runs_at-none (suc d) i j b in cc
close_runs_at-none d i j (proj S x s) = ap (proj S x) (close_runs_at-none d i j s)
close_runs_at-none d i j (lit x) = refl
close_runs_at-none d i j wide = refl
close_runs_at-none d i j (str s) = refl
close_runs_at-none d i j (local k T) = ap (run_var d j 0 k) (run_var-none (d + 0) i k (local k T)) ∙ run_var-none d j k (local k T)

-- a run with nothing around it, and the same run around nothing
pub close_runs_at-around : (d h i n j : ℕ) (t : Tree) → close_runs_at d h 0 i n t ≡ close_runs_at d i n j 0 t
unfolding close_runs_at
close_runs_at-around d h i n j (var x) = refl
close_runs_at-around d h i n j (sort l) = refl
close_runs_at-around d h i n j (const c ls) = refl
close_runs_at-around d h i n j (app f a) = let p = close_runs_at-around d h i n j f in let q = close_runs_at-around d h i n j a in cc
close_runs_at-around d h i n j (lam A b) = let p = close_runs_at-around d h i n j A in let q = close_runs_at-around (suc d) h i n j b in cc
close_runs_at-around d h i n j (pi A B) = let p = close_runs_at-around d h i n j A in let q = close_runs_at-around (suc d) h i n j B in cc
close_runs_at-around d h i n j (let_in A a b) = let p = close_runs_at-around d h i n j A in let r = close_runs_at-around d h i n j a in let q = close_runs_at-around (suc d) h i n j b in cc
close_runs_at-around d h i n j (proj S x s) = ap (proj S x) (close_runs_at-around d h i n j s)
close_runs_at-around d h i n j (lit x) = refl
close_runs_at-around d h i n j wide = refl
close_runs_at-around d h i n j (str s) = refl
close_runs_at-around d h i n j (local k T) =
    let same : d ≡ d + 0 = omega arith in
    ap (run_var d i n k) (run_var-none (d + n) h k (local k T))
    ∙ ap (λ x. run_var x i n k (local k T)) same
    ∙ sym (run_var-none d j k (run_var (d + 0) i n k (local k T)))

-- the last Local of the inner run, and then the others under its binder
local_next : (d i n j m k : ℕ) (T : Tree) → close_runs_at (suc d) i n j m (close_at d (j + m) (local k T)) ≡ run_var d j (suc m) k (run_var (d + suc m) i n k (local k T))
unfolding close_runs_at close_at
local_next d i n j m k T = go (nat_eq k (j + m)) refl (nat_lt k j) refl (nat_lt k (j + m)) refl
  where
    same : run_var (suc d + m) i n k (local k T) ≡ run_var (d + suc m) i n k (local k T)
    same = let e : suc d + m ≡ d + suc m = omega arith in ap (λ x. run_var x i n k (local k T)) e

    go : (a : Bool) → nat_eq k (j + m) ≡ a → (b : Bool) → nat_lt k j ≡ b → (c : Bool) → nat_lt k (j + m) ≡ c
        → close_runs_at (suc d) i n j m (if a then var d else local k T) ≡ run_var d j (suc m) k (run_var (d + suc m) i n k (local k T))
    go true e b f c g = sym (run_var-in d j (suc m) k d (run_var (d + suc m) i n k (local k T)) (grind (arith, nat_tests)) (grind (arith, nat_tests)) (grind (arith, nat_tests)))
    go false e true f c g =
        run_var-low (suc d) j m k (run_var (suc d + m) i n k (local k T)) (grind (arith, nat_tests))
        ∙ same
        ∙ sym (run_var-low d j (suc m) k (run_var (d + suc m) i n k (local k T)) (grind (arith, nat_tests)))
    go false e false f true g =
        run_var-in (suc d) j m k (suc d + (j + m - suc k)) (run_var (suc d + m) i n k (local k T)) (grind (arith, nat_tests)) (grind (arith, nat_tests)) refl
        ∙ sym (run_var-in d j (suc m) k (suc d + (j + m - suc k)) (run_var (d + suc m) i n k (local k T)) (grind (arith, nat_tests)) (grind (arith, nat_tests)) (grind (arith, nat_tests)))
    go false e false f false g =
        run_var-high (suc d) j m k (run_var (suc d + m) i n k (local k T)) (grind (arith, nat_tests))
        ∙ same
        ∙ sym (run_var-high d j (suc m) k (run_var (d + suc m) i n k (local k T)) (grind (arith, nat_tests)))

pub close_runs_at-next : (d i n j m : ℕ) (t : Tree) → close_runs_at (suc d) i n j m (close_at d (j + m) t) ≡ close_runs_at d i n j (suc m) t
unfolding close_runs_at close_at
close_runs_at-next d i n j m (var x) = refl
close_runs_at-next d i n j m (sort l) = refl
close_runs_at-next d i n j m (const c ls) = refl
close_runs_at-next d i n j m (app f a) = let p = close_runs_at-next d i n j m f in let q = close_runs_at-next d i n j m a in cc
close_runs_at-next d i n j m (lam A b) = let p = close_runs_at-next d i n j m A in let q = close_runs_at-next (suc d) i n j m b in cc
close_runs_at-next d i n j m (pi A B) = let p = close_runs_at-next d i n j m A in let q = close_runs_at-next (suc d) i n j m B in cc
close_runs_at-next d i n j m (let_in A a b) = let p = close_runs_at-next d i n j m A in let r = close_runs_at-next d i n j m a in let q = close_runs_at-next (suc d) i n j m b in cc
close_runs_at-next d i n j m (proj S x s) = ap (proj S x) (close_runs_at-next d i n j m s)
close_runs_at-next d i n j m (lit x) = refl
close_runs_at-next d i n j m wide = refl
close_runs_at-next d i n j m (str s) = refl
close_runs_at-next d i n j m (local k T) = local_next d i n j m k T
