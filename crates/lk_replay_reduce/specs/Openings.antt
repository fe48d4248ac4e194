-- Lambdas that are applied.
use Rattle.std.specs.Prelude.{Bool, true, false, List, Option}
use Rattle.lk_tree.specs.Tree.{Tree, lam}
use Rattle.lk_questions.specs.Core.{lambdas, beta}
use Rattle.lk_questions.specs.Tests.{◌>>=◌, test}
use Rattle.lk_written.specs.Premises.{Left}
use Rattle.lk_written.specs.Reducing.{is_applied_lam}
use Rattle.lk_written.specs.Typing.{comes_to}

abbrev pub is_lam : Tree → Bool
is_lam (lam A b) = true
is_lam _ = false

-- b is the lambda h, applied to xs, with as many lambdas opened as there are arguments for
abbrev pub beta_of : Left → Tree → List Tree → Tree → Option (Unit {0})
beta_of js h xs b = do
  u ← test (is_applied_lam h xs)
  comes_to b (beta (lambdas h) h xs) js
