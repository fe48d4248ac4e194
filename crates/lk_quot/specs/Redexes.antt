-- Quot.lift or Quot.ind that is applied to its major premise.
use Rattle.std.specs.Prelude.{◌<◌, ℕ, suc, List, ◌∷◌, length, map, drop, All}
use Rattle.std.specs.Prelude.{Option, Some, None, if◌then◌else◌}
use Rattle.lk_tree.specs.Tree.{Name, Tree, const, app}
use Rattle.lk_tree.specs.Spine.{apply, head, args}
use Rattle.lk_tree.specs.declared.rule.Rule.TheVariants.{UnknownConstant}
use Rattle.lk_tree.specs.Mentions.{same_name}
use Rattle.lk_rulebook.specs.Names.{quot_mk, quot_lift, quot_ind}
use Rattle.lk_questions.specs.Query.{core}
use Rattle.lk_questions.specs.Program.{Program, done, look, asked}
use Rattle.lk_questions.specs.Quotients.{by_quot, at_mk, at_major}
use Rattle.lk_quot.specs.declared.redex.Redex.{Redex}

-- the function that the major premise's element goes to, the major premise, and what is behind it
pub record PlainRedex : Type 0 where
  pub function : Tree
  pub major : Tree
  pub rest : List Tree

abbrev pub lift_redex : List Tree → Option PlainRedex
lift_redex (A ∷ r ∷ B ∷ f ∷ h ∷ major ∷ rest) =
    Some (record { function = f; major = major; rest = rest })
lift_redex _ = None

abbrev pub ind_redex : List Tree → Option PlainRedex
ind_redex (A ∷ r ∷ B ∷ h ∷ major ∷ rest) =
    Some (record { function = h; major = major; rest = rest })
ind_redex _ = None

-- what a constant of this name is, applied to these arguments
abbrev pub redex_of : Name → List Tree → Option PlainRedex
redex_of c xs =
    if same_name c quot_lift then lift_redex xs
    else (if same_name c quot_ind then ind_redex xs else None)

abbrev pub redex_by : Tree → List Tree → Option PlainRedex
redex_by (const c ls) xs = redex_of c xs
redex_by _ xs = None

-- what e is
abbrev pub redex_in : Tree → Option PlainRedex
redex_in e = redex_by (head e) (args e)

-- e is it, or no such application
abbrev pub core_redex : Tree → Option PlainRedex → Program Tree
core_redex e None = done e
core_redex e (Some p) = at_major e p.function p.major p.rest

-- the same, once m is there, the weak head form of the major premise
abbrev pub form_rest : Tree → Option PlainRedex → Tree → Program Tree
form_rest e None m = done e
form_rest e (Some p) m = at_mk e p.function p.rest (head m) (args m)

-- the major premise's element is there
abbrev pub at_element : PlainRedex → Tree → Program Tree
at_element p a = asked (core (apply (app p.function a) p.rest))

-- the same, where a quotient unit gives Quot.mk
abbrev pub looked_mk : Tree → PlainRedex → Tree → Program Tree
looked_mk e p a = look UnknownConstant quot_mk λ g.
    if by_quot g.kind then at_element p a else done e

-- what numbers stand for
abbrev pub plain_redex : (ℕ → Tree) → Redex → PlainRedex
plain_redex t u = record {
  function = t u.function;
  major = t u.major;
  rest = map t (drop (suc u.before) u.arguments.items);
}

-- its numbers are below n
pub record IsKnownRedex (n : ℕ) (u : Redex) : Type 0 where
  pub function_in : u.function < n
  pub major_in : u.major < n
  pub arguments_in : All (λ x. x < n) u.arguments.items
  pub before_in : u.before < length u.arguments.items
