-- Applications compared from the outside in.
use Rattle.std.specs.Prelude.{Bool, true, false, ◌&&◌, [], Option, if◌then◌else◌}
use Rattle.lk_tree.specs.Tree.{Tree, app}
use Rattle.lk_tree.specs.Spine.{apply, args}
use Rattle.lk_questions.specs.Steps.{is_same_tree}
use Rattle.lk_questions.specs.Tests.{◌>>=◌}
use Rattle.lk_written.specs.Premises.{Left, Stated, arguments_over}
use Rattle.lk_written.specs.Typing.{comes_to}

-- b is h, applied to the arguments of a
abbrev pub is_applied_as : Tree → Tree → Tree → Bool
is_applied_as h (app f x) (app g y) = is_same_tree y x && is_applied_as h f g
is_applied_as h (app f x) _ = false
is_applied_as h _ b = is_same_tree b h

-- a is f, applied to one argument or more, and b is g, applied to the same
abbrev pub are_headed : Tree → Tree → Tree → Tree → Bool
are_headed f g (app h x) (app i y) =
    is_same_tree y x && (if is_same_tree h f then is_same_tree i g else are_headed f g h i)
are_headed f g _ _ = false

-- b is h, applied to the arguments of a, and no premise is left
abbrev pub applied_to : Left → Tree → Tree → Tree → Option (Unit {0})
applied_to js h a b = comes_to b (apply h (args a)) js

-- f >> g, and a is f applied to arguments: b is g applied to them
abbrev pub head_after : Stated → Tree → Tree → Option (Unit {0})
head_after f a b = do
  xs ← arguments_over f.left a []
  comes_to b (apply f.right xs) f.after
