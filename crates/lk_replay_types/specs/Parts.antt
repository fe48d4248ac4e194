-- The parts of tests that only read premises, over trees that were made before.
use Rattle.std.specs.Prelude.{List, [], ◌∷◌, Option, Some}
use Rattle.lk_tree.specs.Tree.{Level, Tree, lam, pi, local}
use Rattle.lk_tree.specs.Bind.{opened}
use Rattle.lk_rulebook.specs.Claims.{Claim}
use Rattle.lk_questions.specs.Tests.{◌>>=◌}
use Rattle.lk_written.specs.Premises.{Left, fresh_local, typed, equal, sorted, to_pi}
use Rattle.lk_written.specs.Typing.{comes_to}

-- sort A = l, b => B
unfoldable pub lam_read : List Claim → Left → Tree → Tree → Tree → Option (Unit {0})
lam_read ps js A b B = do
  l ← sorted ps js A
  T ← typed ps l.1 b
  comes_to T.0 B T.1

-- the same of a lambda and a function type that are opened with x
abbrev pub lam_opened : List Claim → Left → Tree → Tree → Tree → Tree → Option (Unit {0})
lam_opened ps js x A b B = do
  k ← fresh_local A (lam A b ∷ pi A B ∷ []) x
  lam_read ps js A (opened b (local k A)) (opened B (local k A))

-- sort A = u, sort of B = v
unfoldable pub sorts_read : List Claim → Left → Tree → Tree → Option ((Level × Level) × Left)
sorts_read ps js A B = do
  u ← sorted ps js A
  v ← sorted ps u.1 B
  Some ((u.0, v.0), v.1)

-- sort A = l, v => V, V == A, b => T
unfoldable pub let_read : List Claim → Left → Tree → Tree → Tree → Tree → Option (Unit {0})
let_read ps js A v b T = do
  l ← sorted ps js A
  V ← typed ps l.1 v
  r ← equal ps V.1 V.0 A
  B ← typed ps r b
  comes_to T B.0 B.1

-- F >> Pi A B, x => X, X == A; then it is B
unfoldable pub body_for : List Claim → Left → Tree → Tree → Option (Tree × Left)
body_for ps js F x = do
  p ← to_pi ps js F
  X ← typed ps p.1 x
  r ← equal ps X.1 X.0 p.0.0
  Some (p.0.1, r)
