-- The laws of an operation, part by part.
use Rattle.std.specs.Prelude.{ℕ, nat_eq, List, Option}
use Rattle.lk_tree.specs.Tree.{Tree}
use Rattle.lk_tree.specs.Operations.{Op}
use Rattle.lk_rulebook.specs.Place.{Place}
use Rattle.lk_rulebook.specs.Claims.{Claim}
use Rattle.lk_rulebook.specs.NumberLaws.{Law, laws_of, stated_by}
use Rattle.lk_questions.specs.Shapes.{nat_shape}
use Rattle.lk_questions.specs.NumberLaws.{def_given, held_given}
use Rattle.lk_questions.specs.Tests.{◌>>=◌, test, found}
use Rattle.lk_written.specs.Premises.{Left, equal}
use Rattle.lk_written.specs.Section.{laws_read}

-- left == right of one law, whose name is given; the premises after it
abbrev pub law_read : Place → List Claim → Left → Law → Option Left
law_read w ps js law = do
  u ← found w (held_given law.holds)
  equal ps js law.left law.right

-- the operation by which the laws are stated is given, and each law holds
abbrev pub stated_test : Place → List Claim → Left → Op → Tree → Option (Unit {0})
stated_test w ps js op value = do
  y ← found w (def_given (stated_by op))
  laws_read w ps js (laws_of op value)

-- the def has no level parameters
abbrev pub counted_test : Place → List Claim → Left → Op → ℕ → Tree → Option (Unit {0})
counted_test w ps js op n value = do
  v ← test (nat_eq n 0)
  stated_test w ps js op value

-- Nat has its shape
abbrev pub op_test : Place → List Claim → Left → Op → ℕ → Tree → Option (Unit {0})
op_test w ps js op n value = do
  u ← found w nat_shape
  counted_test w ps js op n value
