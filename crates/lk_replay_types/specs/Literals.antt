-- The types of literals.
use Rattle.std.specs.Prelude.{Option}
use Rattle.lk_tree.specs.Tree.{Tree}
use Rattle.lk_rulebook.specs.Place.{Place}
use Rattle.lk_rulebook.specs.Names.{named, nat, string}
use Rattle.lk_questions.specs.Shapes.{nat_shape, string_shape}
use Rattle.lk_questions.specs.Tests.{◌>>=◌, found}
use Rattle.lk_written.specs.Premises.{Left}
use Rattle.lk_written.specs.Typing.{comes_to}

-- T is Nat, which has its shape
abbrev pub lit_by : Place → Left → Tree → Option (Unit {0})
lit_by w js T = do
  u ← found w nat_shape
  comes_to T (named nat) js

-- T is String, which has its shape
abbrev pub str_by : Place → Left → Tree → Option (Unit {0})
str_by w js T = do
  u ← found w string_shape
  comes_to T (named string) js
