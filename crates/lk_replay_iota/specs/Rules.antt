-- The rules of recursors.
use Rattle.std.specs.Prelude.{ℕ, ◌+◌, ◌&&◌, nat_eq, List, length, take, drop, Option}
use Rattle.lk_tree.specs.Tree.{Name, Level, Tree}
use Rattle.lk_tree.specs.Levels.{put_levels}
use Rattle.lk_tree.specs.Mentions.{same_name}
use Rattle.lk_tree.specs.Spine.{apply, head, args}
use Rattle.lk_rulebook.specs.Place.{Place, Entry}
use Rattle.lk_questions.specs.Iota.{CtorApp}
use Rattle.lk_questions.specs.Tests.{◌>>=◌, test}
use Rattle.lk_written.specs.Premises.{Left}
use Rattle.lk_written.specs.Typing.{comes_to}
use Rattle.lk_constructor.specs.Looking.{app_at}
use Rattle.lk_replay_iota.specs.Recursors.{Ruled, nth_ruled, ruled_in}

-- b is v, applied to the first m arguments of f, and to those of e behind the first p
abbrev pub right_side : Left → Tree → ℕ → Tree → ℕ → Tree → Tree → Option (Unit {0})
right_side js v m f p e b = comes_to b (apply (apply v (take m (args f))) (drop p (args e))) js

-- the same of the value of a rule at levels, as many as the level parameters
abbrev pub value_read : Left → List Level → List Name → Ruled → Tree → ℕ → Tree → Tree →
    Option (Unit {0})
value_read js ls ps u f p e b = do
  y ← test (nat_eq (length ls) (length ps))
  right_side js (put_levels ps ls u.rule.value) u.shared f p e b

-- the same, where the rule is for this constructor, with as many fields
abbrev pub constructor_read : Left → List Level → List Name → Ruled → Tree → Tree → Tree →
    CtorApp → Option (Unit {0})
constructor_read js ls ps u f e b k = do
  x ← test (same_name u.rule.ctor k.name
      && nat_eq (length (args e)) (k.ctor.parameters + u.rule.fields))
  value_read js ls ps u f k.ctor.parameters e b

abbrev pub major_read : Place → Left → List Level → List Name → Tree → Tree → Tree → Ruled →
    Option (Unit {0})
major_read w js ls ps f e b u = do
  k ← app_at w (head e) (args e)
  constructor_read js ls ps u f e b k

-- the same, where f has just the arguments before the major premise e
abbrev pub rule_read : Place → Left → List Level → List Name → Tree → Tree → Tree → Ruled →
    Option (Unit {0})
rule_read w js ls ps f e b u = do
  x ← test (nat_eq (length (args f)) u.before)
  major_read w js ls ps f e b u

-- the same of the rule at place i of the recursor g
abbrev pub entry_read : Place → ℕ → Left → List Level → Entry → Tree → Tree → Tree →
    Option (Unit {0})
entry_read w i js ls g f e b = do
  u ← ruled_in (nth_ruled i) g.kind
  rule_read w js ls g.levels f e b u
