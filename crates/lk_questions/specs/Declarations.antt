-- The questions of a declaration that is a unit of its own.
use Rattle.std.specs.Prelude.{if◌then◌else◌}
use Rattle.lk_tree.specs.Tree.{Tree}
use Rattle.lk_tree.specs.Level.{is_zero_level}
use Rattle.lk_tree.specs.declared.rule.Rule.TheVariants.{ValueType, TheoremNotProp}
use Rattle.lk_rulebook.specs.Units.{Body, as_axiom, as_def, as_thm, as_opaque, as_quot, Decl}
use Rattle.lk_questions.specs.Query.{infer, same}
use Rattle.lk_questions.specs.Program.{Program, done, refuse, asked, ◌>>=◌}
use Rattle.lk_questions.specs.Steps.{given, sort_of}
use Rattle.lk_questions.specs.QuotientUnits.{quot_steps}
use Rattle.lk_questions.specs.NumberLaws.{lawful_op, law_steps}

pub data Yes : Type 0 where
  checked : Yes

-- the value is of the type
abbrev pub value_steps : Tree → Tree → Program Yes
value_steps type value = do
  V ← asked (infer value)
  equal ← asked (same V type)
  given equal ValueType (done checked)

-- what a declaration's body asks, its type's sort too
abbrev pub body_steps : Decl → Body → Program Yes
body_steps d as_axiom = do
  l ← sort_of d.type
  done checked
body_steps d (as_def h value) = do
  l ← sort_of d.type
  y ← value_steps d.type value
  u ← law_steps (lawful_op d.name) d.levels value
  done checked
body_steps d (as_opaque value) = do
  l ← sort_of d.type
  value_steps d.type value
body_steps d (as_thm value) = do
  l ← sort_of d.type
  if is_zero_level l then value_steps d.type value else refuse TheoremNotProp
body_steps d as_quot = do
  u ← quot_steps d.name d.levels d.type
  l ← sort_of d.type
  done checked

abbrev pub unit_steps : Decl → Program Yes
unit_steps d = body_steps d d.body
