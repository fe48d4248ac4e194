-- Projections of constructors.
use Rattle.std.specs.Prelude.{ℕ, ◌+◌, slice_get, Option}
use Rattle.lk_tree.specs.Tree.{Name, Tree}
use Rattle.lk_tree.specs.Mentions.{same_name}
use Rattle.lk_tree.specs.Spine.{head, args}
use Rattle.lk_rulebook.specs.Place.{Place}
use Rattle.lk_questions.specs.Iota.{CtorApp}
use Rattle.lk_questions.specs.Strings.{text_to_ctor}
use Rattle.lk_questions.specs.Tests.{◌>>=◌, test, found}
use Rattle.lk_written.specs.Premises.{Left}
use Rattle.lk_written.specs.Typing.{comes_to}
use Rattle.lk_constructor.specs.Looking.{app_at}

-- b is argument number n of x
abbrev pub argument_is : Left → Tree → ℕ → Tree → Option (Unit {0})
argument_is js x n b = do
  y ← slice_get (args x) n
  comes_to b y js

-- the same, where J is the structure S
abbrev pub field_with : Left → Name → Name → ℕ → Tree → Tree → Option (Unit {0})
field_with js J S n x b = do
  u ← test (same_name J S)
  argument_is js x n b

-- b is field number i of x, which is this constructor of S that is applied
abbrev pub field_of : Left → Name → ℕ → Tree → Tree → CtorApp → Option (Unit {0})
field_of js S i x b k = field_with js k.ind.name S (k.ctor.parameters + i) x b

abbrev pub field_at : Place → Left → Name → ℕ → Tree → Tree → Option (Unit {0})
field_at w js S i x b = do
  k ← app_at w (head x) (args x)
  field_of js S i x b k

-- m is that constructor, or a text that expands to it
abbrev pub field_form : Place → Left → Name → ℕ → Tree → Tree → Option (Unit {0})
field_form w js S i m b = do
  x ← found w (text_to_ctor m)
  field_at w js S i x b
