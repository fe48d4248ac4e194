-- The laws that are asked of a def that is named as an operation on numbers.
use Rattle.std.specs.Prelude.{nat_eq, List, [], ◌∷◌, length, Option, Some, None}
use Rattle.lk_tree.specs.Tree.{Name, Tree}
use Rattle.lk_tree.specs.Operations.{Op, add, sub, mul, beq, ble, pow}
use Rattle.lk_tree.specs.declared.rule.Rule.TheVariants.{NoBuiltin, NatLaw}
use Rattle.lk_rulebook.specs.Names.{op_name}
use Rattle.lk_rulebook.specs.NumberLaws.{Law, laws_of, stated_by}
use Rattle.lk_rulebook.specs.Literals.{by_def}
use Rattle.lk_questions.specs.Query.{same}
use Rattle.lk_questions.specs.Program.{Program, done, look, asked, ◌>>=◌}
use Rattle.lk_questions.specs.Steps.{given}
use Rattle.lk_questions.specs.Shapes.{nat_shape}
use Rattle.lk_questions.specs.Literals.{op_named}

-- the operations with laws
abbrev pub lawful_ops : List Op
lawful_ops = add ∷ sub ∷ mul ∷ pow ∷ beq ∷ ble ∷ []

-- the operation with laws that has this name
abbrev pub lawful_op : Name → Option Op
lawful_op c = op_named lawful_ops c

-- the operation by which others' laws are stated must be given by a def
abbrev pub def_given : Option Op → Program (Unit {0})
def_given None = done tt
def_given (Some op) = look NoBuiltin (op_name op) λ g. given (by_def g.kind) NatLaw (done tt)

-- the name that a law holds must be given
abbrev pub held_given : Option Name → Program (Unit {0})
held_given None = done tt
held_given (Some c) = look NoBuiltin c λ g. done tt

-- both sides of each law must be equal
abbrev pub laws_hold : List Law → Program (Unit {0})
laws_hold [] = done tt
laws_hold (law ∷ laws) = do
  u ← held_given law.holds
  equal ← asked (same law.left law.right)
  given equal NatLaw (laws_hold laws)

-- of a def with these level parameters and this value
abbrev pub law_steps : Option Op → List Name → Tree → Program (Unit {0})
law_steps None ps value = done tt
law_steps (Some op) ps value = do
  u ← nat_shape
  given (nat_eq (length ps) 0) NatLaw (do
    y ← def_given (stated_by op)
    laws_hold (laws_of op value))
