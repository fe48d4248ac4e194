-- The tests that lines are made of. A test reads the premises that are left, and gives what it read
-- and those left after it.
use Rattle.std.specs.Prelude.{ℕ, suc, ◌^◌, Bool, true, false, ◌&&◌, nat_lt, nat_le, List, [], ◌∷◌}
use Rattle.std.specs.Prelude.{Option, Some, None, slice_get, if◌then◌else◌}
use Rattle.lk_tree.specs.Tree.{Name, Level, Tree, var, sort, const, app, lam, pi, let_in, proj, lit}
use Rattle.lk_tree.specs.Tree.{wide, str, local}
use Rattle.lk_tree.specs.Bind.{bound}
use Rattle.lk_tree.specs.Level.{is_zero_level}
use Rattle.lk_questions.specs.Steps.{is_same_tree}
use Rattle.lk_rulebook.specs.Claims.{Claim, types, reduces, equals}
use Rattle.lk_questions.specs.Tests.{◌>>=◌, test}

-- closed and well scoped under d binders
abbrev pub is_fine : ℕ → Tree → Bool
is_fine d (var i) = nat_lt i d
is_fine d (sort l) = true
is_fine d (const c ls) = true
is_fine d (app f a) = is_fine d f && is_fine d a
is_fine d (lam A b) = is_fine d A && is_fine (suc d) b
is_fine d (pi A B) = is_fine d A && is_fine (suc d) B
is_fine d (let_in A v b) = is_fine d A && (is_fine d v && is_fine (suc d) b)
is_fine d (proj S i s) = is_fine d s
is_fine d (lit n) = nat_lt n (2 ^ 128)
is_fine d wide = false
is_fine d (str s) = true
is_fine d (local k T) = is_fine 0 T && nat_le (bound T) k

-- the parts of a tree of a form
abbrev pub as_sort : Tree → Option Level
as_sort (sort l) = Some l
as_sort _ = None

abbrev pub as_pi : Tree → Option (Tree × Tree)
as_pi (pi A B) = Some (A, B)
as_pi _ = None

abbrev pub as_const : Tree → Option (Name × List Level)
as_const (const c ls) = Some (c, ls)
as_const _ = None

abbrev pub as_local : Tree → Option (ℕ × Tree)
as_local (local k T) = Some (k, T)
as_local _ = None

-- k is at least the bound of each of these trees
abbrev pub is_fresh : ℕ → List Tree → Bool
is_fresh k [] = true
is_fresh k (e ∷ es) = nat_le (bound e) k && is_fresh k es

-- the number of x, where x is a Local of type A that is fresh for these trees
abbrev pub fresh_local : Tree → List Tree → Tree → Option ℕ
fresh_local A es x = do
  p ← as_local x
  u ← test (is_same_tree p.1 A && is_fresh p.0 es)
  Some p.0

-- premises that are left
abbrev pub Left : Type 0
Left = List ℕ

-- no premise is left
abbrev pub ends : Left → Option (Unit {0})
ends [] = Some tt
ends (j ∷ js) = None

-- the two trees of what the next premise states, and the premises after it
pub record Stated : Type 0 where
  pub left : Tree
  pub right : Tree
  pub after : Left

-- the claim of the next premise, and the premises after it
abbrev pub next_claim : List Claim → Left → Option (Claim × Left)
next_claim ps [] = None
next_claim ps (j ∷ js) = slice_get ps j >>= λ c. Some (c, js)

abbrev pub as_typing : Claim → Left → Option Stated
as_typing (types e T) js = Some (record { left = e; right = T; after = js })
as_typing _ js = None

abbrev pub as_reduction : Claim → Left → Option Stated
as_reduction (reduces a b) js = Some (record { left = a; right = b; after = js })
as_reduction _ js = None

abbrev pub as_equality : Claim → Left → Option Stated
as_equality (equals a b) js = Some (record { left = a; right = b; after = js })
as_equality _ js = None

-- the next premise, where it states this relation, whatever its trees are
abbrev pub typing : List Claim → Left → Option Stated
typing ps js = do
  c ← next_claim ps js
  as_typing c.0 c.1

abbrev pub reduction : List Claim → Left → Option Stated
reduction ps js = do
  c ← next_claim ps js
  as_reduction c.0 c.1

abbrev pub equality : List Claim → Left → Option Stated
equality ps js = do
  c ← next_claim ps js
  as_equality c.0 c.1

-- e => T
abbrev pub typed : List Claim → Left → Tree → Option (Tree × Left)
typed ps js e = do
  s ← typing ps js
  u ← test (is_same_tree s.left e)
  Some (s.right, s.after)

-- e >> b, where the next premise is a reduction of e
abbrev pub next_reduct : List Claim → Left → Tree → Option (Tree × Left)
next_reduct ps js e = do
  s ← reduction ps js
  u ← test (is_same_tree s.left e)
  Some (s.right, s.after)

-- e >> b; else nothing is read, and b is e
abbrev pub reduced : List Claim → Left → Tree → Option (Tree × Left)
reduced ps js e = elim (next_reduct ps js e) [ Some r ↦ Some r | None ↦ Some (e, js) ]

-- a == b, where the next premise states it
abbrev pub next_equal : List Claim → Left → Tree → Tree → Option Left
next_equal ps js a b = do
  s ← equality ps js
  u ← test (is_same_tree s.left a && is_same_tree s.right b)
  Some s.after

-- a == b; nothing is read where they are one tree
abbrev pub equal : List Claim → Left → Tree → Tree → Option Left
equal ps js a b = if is_same_tree a b then Some js else next_equal ps js a b

-- S >> Sort l
abbrev pub to_sort : List Claim → Left → Tree → Option (Level × Left)
to_sort ps js S = do
  b ← reduced ps js S
  l ← as_sort b.0
  Some (l, b.1)

-- F >> Pi A B
abbrev pub to_pi : List Claim → Left → Tree → Option ((Tree × Tree) × Left)
to_pi ps js F = do
  b ← reduced ps js F
  p ← as_pi b.0
  Some (p, b.1)

-- sort A = l: A => S, S >> Sort l
abbrev pub sorted : List Claim → Left → Tree → Option (Level × Left)
sorted ps js A = do
  S ← typed ps js A
  to_sort ps S.1 S.0

-- A is a proposition
abbrev pub is_prop_by : List Claim → Left → Tree → Option Left
is_prop_by ps js A = do
  l ← sorted ps js A
  u ← test (is_zero_level l.0)
  Some l.1

-- the arguments, one or more, where e is f applied to them; xs: those that e itself is applied to
abbrev pub arguments_over : Tree → Tree → List Tree → Option (List Tree)
arguments_over f (app g x) xs =
    if is_same_tree g f then Some (x ∷ xs) else arguments_over f g (x ∷ xs)
arguments_over f _ xs = None
