-- The laws as the program holds them, and the trees that they stand for.
use Rattle.std.specs.Prelude.{option_map}
use Rattle.lk_tree.specs.Tree.{Tree, app, local}
use Rattle.lk_rulebook.specs.Names.{named, nat, nat_zero, nat_succ}
use Rattle.lk_rulebook.specs.NumberLaws.{Law as PlainLaw}
use Rattle.lk_laws.specs.declared.sides.Number.{Number}
use Rattle.lk_laws.specs.declared.sides.Number.TheVariants.{X, Y, Zero, One, AfterX, AfterY}
use Rattle.lk_laws.specs.declared.sides.Side.{Side}
use Rattle.lk_laws.specs.declared.sides.Side.TheVariants.{Plain, Truth, Value, Before, AfterValue, BeforeValue, WithValue}
use Rattle.lk_laws.specs.declared.table.Law.{Law}
use Rattle.lk_laws.specs.declared.constant.Constant.{Constant}
use Rattle.lk_laws.specs.declared.constant.Constant.TheVariants.{Succ, Pred}
use Rattle.lk_laws.specs.Operations.{constant_name}

-- the constant without levels
abbrev pub constant : Constant → Tree
constant c = named (constant_name c)

-- f a b
abbrev pub of_two : Tree → Tree → Tree → Tree
of_two f a b = app (app f a) b

abbrev pub number_tree : Number → Tree
number_tree X = local 0 (named nat)
number_tree Y = local 1 (named nat)
number_tree Zero = named nat_zero
number_tree One = app (named nat_succ) (named nat_zero)
number_tree AfterX = app (named nat_succ) (local 0 (named nat))
number_tree AfterY = app (named nat_succ) (local 1 (named nat))

-- v of both numbers
abbrev pub of_both : Tree → Tree
of_both v = of_two v (number_tree X) (number_tree Y)

-- v is the value of the definition
abbrev pub side_tree : Tree → Side → Tree
side_tree v (Plain n) = number_tree n
side_tree v (Truth c) = constant c
side_tree v (Value a b) = of_two v (number_tree a) (number_tree b)
side_tree v (Before n) = app (constant Pred) (number_tree n)
side_tree v AfterValue = app (constant Succ) (of_both v)
side_tree v BeforeValue = app (constant Pred) (of_both v)
side_tree v (WithValue c) = of_two (constant c) (of_both v) (number_tree X)

abbrev pub law_at : Tree → Law → PlainLaw
law_at v law = record {
  holds = option_map constant_name law.holds;
  left = side_tree v law.left;
  right = side_tree v law.right;
}
