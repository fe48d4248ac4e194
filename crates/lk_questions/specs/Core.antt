-- Core(e): the weak head form without delta; and Whnf(e).
use Rattle.std.specs.Prelude.{ℕ, zero, suc, List, ◌∷◌, Option, Some, None, if◌then◌else◌}
use Rattle.lk_tree.specs.Tree.{Tree, const, app, lam, let_in, proj}
use Rattle.lk_tree.specs.Bind.{opened}
use Rattle.lk_tree.specs.Spine.{apply, head, args}
use Rattle.lk_tree.specs.declared.rule.Rule.TheVariants.{UnknownConstant}
use Rattle.lk_rulebook.specs.Place.{Entry}
use Rattle.lk_questions.specs.Query.{core, whnf}
use Rattle.lk_questions.specs.Program.{Program, done, look, asked, ◌>>=◌}
use Rattle.lk_questions.specs.Iota.{core_constant, core_proj}
use Rattle.lk_questions.specs.Literals.{literal_step}
use Rattle.lk_questions.specs.Steps.{is_same_tree, with_levels, value_of}

-- how many lambdas stand at the head
abbrev pub lambdas : Tree → ℕ
lambdas (lam A b) = suc (lambdas b)
lambdas _ = zero

-- h applied to the arguments, where the first n lambdas of h are opened with the first n of them
abbrev pub beta : ℕ → Tree → List Tree → Tree
beta (suc n) (lam A b) (a ∷ rest) = beta n (opened b a) rest
beta _ h rest = apply h rest

-- e is h applied to these arguments, of which there is at least one
abbrev pub core_applied : Tree → Tree → List Tree → Program Tree
core_applied e (lam A b) xs = asked (core (beta (lambdas (lam A b)) (lam A b) xs))
core_applied e (let_in A v b) xs = do
  h ← asked (core (let_in A v b))
  if is_same_tree h (let_in A v b) then done e else asked (core (apply h xs))
core_applied e (proj S i s) xs = do
  h ← asked (core (proj S i s))
  if is_same_tree h (proj S i s) then done e else asked (core (apply h xs))
core_applied e (const c ls) xs = look UnknownConstant c λ g. core_constant e c ls xs g g.kind
core_applied e _ xs = done e

abbrev pub core_steps : Tree → Program Tree
core_steps (let_in A v b) = asked (core (opened b v))
core_steps (app f a) = core_applied (app f a) (head f) (args (app f a))
core_steps (proj S i s) = core_proj S i s
core_steps e = done e

-- c, whose head is the constant of this entry, is unfolded by its value
abbrev pub unfolded : Entry → Tree → Tree → Option Tree → Program Tree
unfolded g (const f ls) c (Some v) = do
  u ← with_levels g ls v
  asked (whnf (apply u (args c)))
unfolded g h c _ = done c

-- by the literal step, else by its value
abbrev pub stepped : Option Tree → Program Tree → Program Tree
stepped (Some r) next = done r
stepped None next = next

abbrev pub whnf_headed : Tree → Tree → Program Tree
whnf_headed c (const f ls) = look UnknownConstant f λ g. do
  r ← literal_step c f ls g
  stepped r (unfolded g (const f ls) c (value_of g.kind))
whnf_headed c _ = done c

abbrev pub whnf_steps : Tree → Program Tree
whnf_steps e = do
  c ← asked (core e)
  whnf_headed c (head c)
