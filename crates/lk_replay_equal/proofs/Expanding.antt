-- The expansion of a text, and another tree.
use Rattle.std.proofs.Common.{◌≡◌, ℕ, List, refl}
use Rattle.lk_tree.specs.Tree.{Tree, str}
use Rattle.lk_rulebook.specs.Place.{Place}
use Rattle.lk_rulebook.specs.Claims.{Claim}
use Rattle.lk_questions.specs.Tests.{◌>>=◌, found}
use Rattle.lk_questions.specs.Strings.{expansion_of}
use Rattle.lk_written.specs.Premises.{Left}
use Rattle.lk_written.specs.Reducing.{tree_in}
use Rattle.lk_written.specs.Equal.{eq_str_left, eq_str_right}
use Rattle.lk_premises.proofs.Binding.{bind_bind}
use Rattle.lk_premises.specs.Reading.{ends_equal}
use Rattle.lk_replay_equal.specs.Texts.{text_and, and_text}

module _ (w : Place) (ps : List Claim) (js : Left) (s : List ℕ) where
  pub text_left : (b : Tree) → eq_str_left w ps js (str s) b ≡ text_and w ps js s b
  unfolding ends_equal
  text_left b = bind_bind (found w (expansion_of s)) tree_in (λ x. ends_equal ps js x b) (λ o. tree_in o >>= λ x. ends_equal ps js x b) (λ o. refl)

  pub text_right : (a : Tree) → eq_str_right w ps js a (str s) ≡ and_text w ps js a s
  unfolding ends_equal
  text_right a = bind_bind (found w (expansion_of s)) tree_in (λ x. ends_equal ps js a x) (λ o. tree_in o >>= λ x. ends_equal ps js a x) (λ o. refl)
