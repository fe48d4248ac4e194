-- Runs closed in what a binder binds.
use Rattle.std.specs.Prelude.{◌≡◌, refl, ℕ, suc}
use Rattle.lk_tree.specs.Tree.{Tree}
use Rattle.lk_subst.specs.Runs.{close_runs_at}
use Rattle.lk_recursor.specs.declared.binders.Binder.{Binder}
use Rattle.lk_recursor.specs.declared.binders.Binder.TheVariants.{Pi, Lam}
use Rattle.lk_recursor.specs.Binders.{bind}

pub close_runs-bind : (b : Binder) (d i n j m : ℕ) (A B : Tree) → close_runs_at d i n j m (bind b A B) ≡ bind b (close_runs_at d i n j m A) (close_runs_at (suc d) i n j m B)
unfolding close_runs_at
close_runs-bind Pi d i n j m A B = refl
close_runs-bind Lam d i n j m A B = refl
