-- Binders over Locals.
use Rattle.std.specs.Prelude.{◌≡◌, ℕ, suc, List, [], ◌∷◌}
use Rattle.lk_tree.specs.Tree.{Tree, lam, pi}
use Rattle.lk_inductive.specs.Recursors.{number, pis, lams}
use Rattle.lk_recursor.specs.declared.binders.Binder.{Binder}
use Rattle.lk_recursor.specs.declared.binders.Binder.TheVariants.{Pi, Lam}

abbrev pub bind : Binder → Tree → Tree → Tree
bind Pi A B = pi A B
bind Lam A b = lam A b

-- one for each Local
abbrev pub bound_by : Binder → List Tree → Tree → Tree
bound_by Pi xs e = pis xs e
bound_by Lam xs e = lams xs e

-- one for each domain, the first outermost
abbrev pub over_domains : Binder → List Tree → Tree → Tree
over_domains b [] e = e
over_domains b (A ∷ As) e = bind b A (over_domains b As e)

-- Locals whose numbers go up by one, from this one on
abbrev pub AreRun : ℕ → List Tree → Type 0
AreRun k [] = Unit {0}
AreRun k (x ∷ xs) = (number x ≡ k) × AreRun (suc k) xs
