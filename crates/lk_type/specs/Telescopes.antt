-- Telescopes: binders that are opened one inside the other, and then asked for one after the other.
use Rattle.std.specs.Prelude.{◌≡◌, ℕ, zero, suc, List, [], ◌∷◌, length}
use Rattle.lk_tree.specs.Tree.{Tree, Level, zero_level, imax_level, sort, app, lam, pi, local}
use Rattle.lk_tree.specs.Bind.{opened, close_at, bound}
use Rattle.lk_tree.specs.declared.rule.Rule.TheVariants.{NotASort}
use Rattle.lk_questions.specs.Query.{whnf, infer}
use Rattle.lk_questions.specs.Program.{Program, done, refuse, ask, ◌>>=◌}
use Rattle.lk_questions.specs.Steps.{as_sort}
use Rattle.lk_chain.specs.Pis.{pis_over}
use Rattle.lk_type.specs.declared.sheet.Telescope.{Telescope}
use Rattle.lk_type.specs.declared.sheet.Binders.{Binders}
use Rattle.lk_type.specs.declared.sheet.Binders.TheVariants.{Pis, Lambdas}

-- the level of a sort
abbrev pub level_in : Tree → Level
level_in (sort l) = l
level_in _ = zero_level

-- the number of a Local
abbrev pub number_in : Tree → ℕ
number_in (local k T) = k
number_in _ = zero

abbrev pub bound_by : Binders → Tree → Tree → Tree
bound_by Pis A b = pi A b
bound_by Lambdas A b = lam A b

-- the Local with which a binder is opened
abbrev pub fresh : Binders → Tree → Tree → Tree
fresh b A e = local (bound (bound_by b A e)) A

-- e is r under binders that are opened with these Locals, the first one outermost
abbrev pub OpensTo : Binders → Tree → List Tree → Tree → Type 0
OpensTo b e [] r = e ≡ r
OpensTo b e (x ∷ xs) r =
    (A B : Tree) × (e ≡ bound_by b A B) × (x ≡ fresh b A B) × OpensTo b (opened B x) xs r

-- each Local applied to what follows it, the last one to r
abbrev pub ahead : List Tree → Tree → Tree
ahead [] r = r
ahead (x ∷ xs) r = app x (ahead xs r)

-- Pis, after the type T of what stands inside: the sorts of their domains, the innermost one last
abbrev pub pis_end : Tree → Tree → Program Tree
pis_end (app us s) T =
    ask (whnf T) (λ S. as_sort S >>= λ v. pis_end us (sort (imax_level (level_in s) v)))
pis_end _ T = done T

-- the same, where S is to be the sort of what stands inside the innermost one
abbrev pub pis_sorted : Tree → Tree → Tree → Program Tree
pis_sorted us s S = as_sort S >>= λ v. pis_end us (sort (imax_level (level_in s) v))

-- the domains of the lambdas that were opened, the outermost first: e is the lambda, and f the Locals,
-- each applied to what follows it
abbrev pub domains_of : Tree → Tree → List Tree
domains_of (lam A e) (app x f) = A ∷ domains_of e f
domains_of _ _ = []

-- the numbers of their Locals
abbrev pub numbers_of : Tree → Tree → List ℕ
numbers_of (lam A e) (app x f) = number_in x ∷ numbers_of e f
numbers_of _ _ = []

-- a type, closed with the Locals of these numbers, from the innermost on, which is the last
abbrev pub closed_with : List ℕ → Tree → Tree
closed_with [] T = T
closed_with (k ∷ ks) T = close_at (length ks) k (closed_with ks T)

-- the type of a lambda that was opened with those inside it, after the type T of what stands inside:
-- the lambda is applied to its Locals
abbrev pub lambdas_type : Tree → Tree → Tree
lambdas_type (app e f) T = pis_over (domains_of e f) (closed_with (numbers_of e f) T)
lambdas_type _ T = T

-- a telescope, after the type of its innermost body
abbrev pub telescope_end : Binders → Tree → Tree → Program Tree
telescope_end Pis us T = pis_end us T
telescope_end Lambdas e T = done (lambdas_type e T)

-- what is gathered, after a domain's sort
abbrev pub gather : Binders → Tree → Tree → Tree
gather Pis us s = app us s
gather Lambdas e s = e

-- what is left, with so many Locals: to ask for the type of a Local costs what to ask for the type of
-- the binder costs that is opened with it
abbrev pub telescope_on : Binders → ℕ → Tree → Tree → Program Tree
telescope_on b zero e us = ask (infer e) (λ T. telescope_end b us T)
telescope_on b (suc n) (app x e) us =
    ask (infer x) (λ A. ask (infer A) (λ T. ask (whnf T) (λ S. as_sort S >>= λ u.
    telescope_on b n e (gather b us (sort u)))))
telescope_on b (suc n) _ us = refuse NotASort

-- the same, where S is to be a domain's sort
abbrev pub telescope_sorted : Telescope Tree → Tree → Program Tree
telescope_sorted s S =
    as_sort S >>= λ u. telescope_on s.binders s.count s.opened (gather s.binders s.gathered (sort u))

-- the same, where A is a domain
abbrev pub telescope_domain : Telescope Tree → Tree → Program Tree
telescope_domain s A = ask (infer A) (λ T. ask (whnf T) (λ S. telescope_sorted s S))

-- what is gathered at first: e is the outermost binder, x its Local, and f the others
abbrev pub started : Binders → Tree → Tree → Tree → Tree
started Pis e x f = x
started Lambdas e x f = app e (app x f)

-- what is left of a telescope, after the first domain: r stands inside the Locals
abbrev pub asked_for : Binders → Tree → List Tree → Tree → Telescope Tree
asked_for b us xs r = record {
  binders = b;
  count = length xs;
  opened = ahead xs r;
  gathered = us;
}
