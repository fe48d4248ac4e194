-- Parts of tests, over trees that were made before.
use Rattle.std.specs.Prelude.{Bool, true, false, List, [], ◌∷◌, Option, Some}
use Rattle.lk_tree.specs.Tree.{Level, Tree}
use Rattle.lk_rulebook.specs.Claims.{Claim}
use Rattle.lk_questions.specs.Tests.{◌>>=◌, test}
use Rattle.lk_written.specs.Premises.{Left, ends, typed, equal, to_pi, is_prop_by}
use Rattle.lk_written.specs.Equal.{is_neutral}
use Rattle.lk_premises.specs.Reading.{ends_equal}
use Rattle.lk_questions.specs.Same.{eta_long}

abbrev pub is_none : List Level → Bool
is_none [] = true
is_none (l ∷ ls) = false

-- a => A, sort A = l, b => B, A == B
unfoldable pub proofs_read : List Claim → Left → Tree → Tree → Option (Unit {0})
proofs_read ps js a b = do
  A ← typed ps js a
  r ← is_prop_by ps A.1 A.0
  B ← typed ps r b
  s ← equal ps B.1 A.0 B.0
  ends s

-- A == A', b == b'
unfoldable pub bodies_read : List Claim → Left → Tree → Tree → Tree → Tree → Option (Unit {0})
bodies_read ps js A A' b b' = do
  r ← equal ps js A A'
  s ← equal ps r b b'
  ends s

-- o => T, T >> Pi A B; it is A
unfoldable pub domain_read : List Claim → Left → Tree → Option (Tree × Left)
domain_read ps js o = do
  T ← typed ps js o
  p ← to_pi ps T.1 T.0
  Some (p.0.0, p.1)

-- the lambda e, and o as one
abbrev pub lam_and_long : List Claim → Left → Tree → Tree → Option (Unit {0})
lam_and_long ps js e o = do
  u ← test (is_neutral o)
  A ← domain_read ps js o
  ends_equal ps A.1 e (eta_long A.0 o)

abbrev pub long_and_lam : List Claim → Left → Tree → Tree → Option (Unit {0})
long_and_lam ps js o e = do
  u ← test (is_neutral o)
  A ← domain_read ps js o
  ends_equal ps A.1 (eta_long A.0 o) e
