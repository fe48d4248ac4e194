-- Locals of two runs of numbers closed at once: the last of the inner run becomes the innermost variable, and the variables of
-- the outer run stand around those of the inner one.
use Rattle.std.specs.Prelude.{ℕ, suc, ◌+◌, ◌-◌, nat_lt, if◌then◌else◌}
use Rattle.lk_tree.specs.Tree.{Tree, var, sort, const, app, lam, pi, let_in, proj, lit, wide, str, local}
use Rattle.lk_subst.specs.declared.runs.Runs.{Runs}

-- the variable for the Local of number k at depth d, where m Locals from number j on are closed; e, where it is none of them
abbrev pub run_var : ℕ → ℕ → ℕ → ℕ → Tree → Tree
run_var d j m k e = if nat_lt k j then e else (if nat_lt k (j + m) then var (d + (j + m - suc k)) else e)

-- n Locals from number i on are closed around m Locals from number j on
unfoldable pub close_runs_at : ℕ → ℕ → ℕ → ℕ → ℕ → Tree → Tree
close_runs_at d i n j m (var x) = var x
close_runs_at d i n j m (sort l) = sort l
close_runs_at d i n j m (const c ls) = const c ls
close_runs_at d i n j m (app f a) = app (close_runs_at d i n j m f) (close_runs_at d i n j m a)
close_runs_at d i n j m (lam A b) = lam (close_runs_at d i n j m A) (close_runs_at (suc d) i n j m b)
close_runs_at d i n j m (pi A B) = pi (close_runs_at d i n j m A) (close_runs_at (suc d) i n j m B)
close_runs_at d i n j m (let_in A a b) = let_in (close_runs_at d i n j m A) (close_runs_at d i n j m a) (close_runs_at (suc d) i n j m b)
close_runs_at d i n j m (proj S x s) = proj S x (close_runs_at d i n j m s)
close_runs_at d i n j m (lit x) = lit x
close_runs_at d i n j m wide = wide
close_runs_at d i n j m (str s) = str s
close_runs_at d i n j m (local k T) = run_var d j m k (run_var (d + m) i n k (local k T))

-- a run alone
abbrev pub close_run_at : ℕ → ℕ → ℕ → Tree → Tree
close_run_at d j m t = close_runs_at d j 0 j m t

-- by the numbers of the code
abbrev pub runs_var : ℕ → Runs → ℕ → Tree → Tree
runs_var d r k e = run_var d r.inner.first r.inner.count k (run_var (d + r.inner.count) r.outer.first r.outer.count k e)

abbrev pub close_in : ℕ → Runs → Tree → Tree
close_in d r t = close_runs_at d r.outer.first r.outer.count r.inner.first r.inner.count t
