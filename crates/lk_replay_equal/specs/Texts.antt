-- The expansion of a text, and another tree.
use Rattle.std.specs.Prelude.{ℕ, List, Option}
use Rattle.lk_tree.specs.Tree.{Tree}
use Rattle.lk_rulebook.specs.Place.{Place}
use Rattle.lk_rulebook.specs.Claims.{Claim}
use Rattle.lk_questions.specs.Tests.{◌>>=◌}
use Rattle.lk_written.specs.Premises.{Left}
use Rattle.lk_premises.specs.Found.{expanded}
use Rattle.lk_premises.specs.Reading.{ends_equal}

-- the expansion of s == b
abbrev pub text_and : Place → List Claim → Left → List ℕ → Tree → Option (Unit {0})
text_and w ps js s b = do
  x ← expanded w s
  ends_equal ps js x b

-- a == the expansion of s
abbrev pub and_text : Place → List Claim → Left → Tree → List ℕ → Option (Unit {0})
and_text w ps js a s = do
  x ← expanded w s
  ends_equal ps js a x
