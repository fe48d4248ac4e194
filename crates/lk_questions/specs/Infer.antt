-- Infer(e).
use Rattle.lk_tree.specs.Tree.{Tree, succ_level, imax_level, var, sort, const, app, lam, pi, let_in, proj, lit, wide, str, local}
use Rattle.lk_tree.specs.Bind.{opened, close, bound}
use Rattle.lk_tree.specs.declared.rule.Rule.TheVariants.{UnknownConstant, LooseVariable, NotAFunction, ArgumentType, LetType, WideLiteral}
use Rattle.lk_rulebook.specs.Names.{named, nat, string}
use Rattle.lk_questions.specs.Query.{infer, whnf, same}
use Rattle.lk_questions.specs.Program.{Program, done, refuse, look, asked, ◌>>=◌}
use Rattle.lk_questions.specs.Shapes.{nat_shape, string_shape}
use Rattle.lk_questions.specs.Projections.{infer_proj}
use Rattle.lk_questions.specs.Steps.{given, as_pi, sort_of, with_levels}

abbrev pub infer_steps : Tree → Program Tree
infer_steps (local k T) = done T
infer_steps (sort l) = done (sort (succ_level l))
infer_steps (const c ls) = look UnknownConstant c λ e. with_levels e ls e.type
infer_steps (app f a) = do
  F ← asked (infer f)
  S ← asked (whnf F)
  p ← as_pi NotAFunction S
  A ← asked (infer a)
  equal ← asked (same A p.0)
  given equal ArgumentType (done (opened p.1 a))
infer_steps (lam A b) = do
  let k = bound (lam A b)
  l ← sort_of A
  B ← asked (infer (opened b (local k A)))
  done (pi A (close k B))
infer_steps (pi A B) = do
  let k = bound (pi A B)
  u ← sort_of A
  v ← sort_of (opened B (local k A))
  done (sort (imax_level u v))
infer_steps (let_in A v b) = do
  l ← sort_of A
  V ← asked (infer v)
  equal ← asked (same V A)
  given equal LetType (asked (infer (opened b v)))
infer_steps (var i) = refuse LooseVariable
infer_steps (proj S i s) = infer_proj S i s
infer_steps (lit n) = do
  u ← nat_shape
  done (named nat)
infer_steps (str s) = do
  u ← string_shape
  done (named string)
-- no question is asked of it
infer_steps wide = refuse WideLiteral
