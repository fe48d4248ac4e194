-- The major premise of a recursor.
use Rattle.std.specs.Prelude.{ℕ, zero, suc, nat_eq, ◌&&◌, List, length, Option}
use Rattle.lk_tree.specs.Tree.{Tree, app, lit}
use Rattle.lk_tree.specs.Spine.{head, args}
use Rattle.lk_rulebook.specs.Place.{Place, Kind}
use Rattle.lk_rulebook.specs.Structures.{before_major}
use Rattle.lk_rulebook.specs.Names.{named, nat_zero, nat_succ}
use Rattle.lk_rulebook.specs.Claims.{Claim}
use Rattle.lk_questions.specs.Steps.{is_same_tree}
use Rattle.lk_questions.specs.Strings.{text_to_ctor}
use Rattle.lk_questions.specs.Tests.{◌>>=◌, test, passes, found, reads}
use Rattle.lk_written.specs.Premises.{Left, ends, reduced}
use Rattle.lk_written.specs.Reducing.{major_of, the_recursor}

-- the kind is a recursor, with so many arguments before its major premise
abbrev pub has_before : ℕ → Kind → Option (Unit {0})
has_before n k = do
  r ← the_recursor k
  test (nat_eq n (before_major r))

abbrev pub zero_is : Tree → Option (Unit {0})
zero_is n = test (is_same_tree n (named nat_zero))

abbrev pub successor_is : ℕ → Tree → Option (Unit {0})
successor_is k n = test (is_same_tree n (app (named nat_succ) (lit k)))

-- n is that number as a constructor
abbrev pub number_is : ℕ → Tree → Option (Unit {0})
number_is zero n = zero_is n
number_is (suc k) n = successor_is k n

-- n is the text m as a constructor
abbrev pub text_is : Place → Tree → Tree → Option (Unit {0})
text_is w m n = do
  x ← found w (text_to_ctor m)
  test (is_same_tree n x)

-- f is a recursor with all before its major premise, and g too; e reduces to what reads as n
abbrev pub major_read : Place → List Claim → Left → Tree → Tree → Tree → Tree → Option (Unit {0})
major_read w ps js f e g n = do
  u ← test (passes (major_of w (head f) (length (args f))) && is_same_tree g f)
  m ← reduced ps js e
  v ← reads w m.0 n
  ends m.1
