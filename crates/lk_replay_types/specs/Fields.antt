-- The Pi of one field in a constructor's type.
use Rattle.std.specs.Prelude.{ℕ, Bool, ◌&&◌, List, Option, Some}
use Rattle.lk_tree.specs.Tree.{Name, Tree, proj}
use Rattle.lk_tree.specs.Bind.{opened, has_var}
use Rattle.lk_rulebook.specs.Claims.{Claim}
use Rattle.lk_questions.specs.Tests.{◌>>=◌}
use Rattle.lk_written.specs.Premises.{Left, to_pi}
use Rattle.lk_written.specs.Typing.{prop_if}

-- r >> Pi A B, and A is a proposition, where q holds; it is A
unfoldable pub last_read : List Claim → Left → Bool → Tree → Option (Tree × Left)
last_read ps js q r = do
  p ← to_pi ps js r
  t ← prop_if q ps p.1 p.0.0
  Some (p.0.0, t)

-- behind Pi A B of field j, where A is a proposition if that is due
abbrev pub field_allowed : List Claim → Name → Tree → Bool → ℕ → (Tree × Tree) × Left →
    Option (Tree × Left)
field_allowed ps S s due j p = do
  t ← prop_if due ps p.1 p.0.0
  Some (opened p.0.1 (proj S j s), t)

-- the same, where that is due if q holds and B mentions the variable
unfoldable pub field_pi : List Claim → Name → Tree → Bool → ℕ → (Tree × Tree) × Left →
    Option (Tree × Left)
field_pi ps S s q j p = field_allowed ps S s (q && has_var 0 p.0.1) j p

-- the same of a type r that becomes that Pi
abbrev pub field_once : List Claim → Left → Name → Tree → Bool → ℕ → Tree → Option (Tree × Left)
field_once ps js S s q j r = do
  p ← to_pi ps js r
  field_pi ps S s q j p
