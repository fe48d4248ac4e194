-- What is looked up for laws, which asks nothing.
use Rattle.std.specs.Prelude.{Some}
use Rattle.lk_tree.specs.Tree.{Name}
use Rattle.lk_tree.specs.declared.rule.Rule.TheVariants.{NoBuiltin, NatLaw}
use Rattle.lk_rulebook.specs.Literals.{by_def}
use Rattle.lk_questions.specs.Program.{Program, done, look}
use Rattle.lk_questions.specs.Steps.{given}
use Rattle.lk_questions.specs.Shapes.{nat_shape}
use Rattle.lk_questions.specs.NumberLaws.{def_given, held_given}
use Rattle.lk_laws.specs.declared.needs.Needed.{Needed}
use Rattle.lk_laws.specs.declared.needs.Needed.TheVariants.{NatShape, Definition, Given}
use Rattle.lk_laws.specs.Operations.{op_at, constant_name}

-- a def gives this name
abbrev pub def_named : Name → Program (Unit {0})
def_named c = look NoBuiltin c λ g. given (by_def g.kind) NatLaw (done tt)

-- the name is given
abbrev pub name_given : Name → Program (Unit {0})
name_given c = look NoBuiltin c λ g. done tt

abbrev pub needed_steps : Needed → Program (Unit {0})
needed_steps NatShape = nat_shape
needed_steps (Definition op) = def_given (Some (op_at op))
needed_steps (Given c) = held_given (Some (constant_name c))
