-- Operations on numbers that are computed.
use Rattle.std.specs.Prelude.{ℕ, false, not, List, [], ◌∷◌, Option, Some, None}
use Rattle.lk_tree.specs.Tree.{Name, Level, Tree, lit}
use Rattle.lk_tree.specs.Operations.{Op, Value, op_value}
use Rattle.lk_tree.specs.Spine.{args}
use Rattle.lk_rulebook.specs.Names.{named}
use Rattle.lk_rulebook.specs.Literals.{may_give}
use Rattle.lk_rulebook.specs.Place.{Place, Kind}
use Rattle.lk_rulebook.specs.Claims.{Claim}
use Rattle.lk_questions.specs.Literals.{numeral_of, result_of}
use Rattle.lk_questions.specs.Shapes.{nat_shape}
use Rattle.lk_questions.specs.Tests.{◌>>=◌, test, found}
use Rattle.lk_written.specs.Premises.{Left, reduced}
use Rattle.lk_written.specs.Reducing.{tree_in, no_levels, numbers}
use Rattle.lk_written.specs.Typing.{comes_to}
use Rattle.lk_store.specs.Contents.{Contents, tree_at}
use Rattle.lk_lit.specs.Operations.{is_app, named_op}
use Rattle.lk_replay_reduce.specs.Applications.{as_app}
use Rattle.lk_replay_reduce.specs.declared.numbers.NumberRead.{NumberRead}
use Rattle.lk_replay_reduce.specs.declared.numbers.ArgumentPair.{ArgumentPair}

abbrev pub number_at : NumberRead → ℕ × Left
number_at r = (r.number, r.after.now)

abbrev pub pair_at : Contents → ArgumentPair → Tree × Tree
pair_at c p = (tree_at c p.first, tree_at c p.second)

-- e >> a numeral
abbrev pub number_read : List Claim → Left → Tree → Option (ℕ × Left)
number_read ps js e = do
  v ← reduced ps js e
  n ← numeral_of v.0
  Some (n, v.1)

-- the argument of a tree that has one alone, and those of one that has two
abbrev pub only_argument : Tree → Option Tree
only_argument t = do
  p ← as_app t
  u ← test (not (is_app p.0))
  Some p.1

abbrev pub two_arguments : Tree → Option (Tree × Tree)
two_arguments t = do
  p ← as_app t
  q ← as_app p.0
  u ← test (not (is_app q.0))
  Some (q.1, p.1)

-- b is this number, or this constant, which is given
abbrev pub number_is : Left → Tree → ℕ → Option (Unit {0})
number_is js b n = comes_to b (lit n) js

abbrev pub truth_read : Place → Left → Tree → Name → Option (Unit {0})
truth_read w js b c = do
  g ← w.means c
  comes_to b (named c) js

-- b is the tree of this value
unfoldable pub value_read : Place → Left → Tree → Option Value → Option (Unit {0})
value_read w js b v = do
  o ← found w (result_of v)
  r ← tree_in o
  comes_to b r js

-- b is what an operation gives of the number that a's argument reduces to, and of two numbers
abbrev pub unary_read : Place → List Claim → Left → Op → Tree → Tree → Option (Unit {0})
unary_read w ps js op a b = do
  x ← only_argument a
  n ← number_read ps js x
  value_read w n.1 b (op_value op (n.0 ∷ []))

abbrev pub binary_read : Place → List Claim → Left → Op → Tree → Tree → Option (Unit {0})
binary_read w ps js op a b = do
  p ← two_arguments a
  m ← number_read ps js p.0
  n ← number_read ps m.1 p.1
  value_read w n.1 b (op_value op (m.0 ∷ n.0 ∷ []))

-- the same of as many as a has
abbrev pub operation_read : Place → List Claim → Left → Op → Tree → Tree → Option (Unit {0})
operation_read w ps js op a b = do
  ns ← numbers ps js (args a)
  value_read w ns.1 b (op_value op ns.0)

-- the same, where Nat has its shape
abbrev pub shaped_read : Place → List Claim → Left → Op → Tree → Tree → Option (Unit {0})
shaped_read w ps js op a b = do
  s ← found w nat_shape
  operation_read w ps js op a b

-- the same of the operation that c stands for, without levels and of this kind
abbrev pub entry_read : Place → List Claim → Left → Name → List Level → Kind → Tree → Tree →
    Option (Unit {0})
entry_read w ps js c ls kind a b = do
  u ← no_levels ls
  op ← named_op c
  v ← test (may_give op kind)
  shaped_read w ps js op a b
