-- A function that is applied to one argument after the other.
use Rattle.std.specs.Prelude.{List, [], Option, Some}
use Rattle.lk_tree.specs.Tree.{Tree}
use Rattle.lk_tree.specs.Bind.{opened}
use Rattle.lk_rulebook.specs.Claims.{Claim}
use Rattle.lk_questions.specs.Tests.{◌>>=◌}
use Rattle.lk_written.specs.Premises.{Left, Stated, arguments_over}
use Rattle.lk_written.specs.Typing.{applied_type, comes_to}
use Rattle.lk_replay_types.specs.Parts.{body_for}

-- F >> Pi A B, x => X, X == A; then B[x]
abbrev pub applied_once : List Claim → Left → Tree → Tree → Option (Tree × Left)
applied_once ps js F x = do
  b ← body_for ps js F x
  Some (opened b.0 x, b.1)

-- T is the type of a function of type F, applied to xs
abbrev pub type_of_spine : List Claim → Left → Tree → List Tree → Tree → Option (Unit {0})
type_of_spine ps js F xs T = do
  F' ← applied_type ps js F xs
  comes_to T F'.0 F'.1

-- the same of e, which is a function f of type F, applied
abbrev pub app_after : List Claim → Stated → Tree → Tree → Option (Unit {0})
app_after ps f e T = do
  xs ← arguments_over f.left e []
  type_of_spine ps f.after f.right xs T
