-- The laws of operations on numbers: which pairs of trees are equal where a def's value computes what the operation does.
use Rattle.std.specs.Prelude.{Bool, true, false, List, [], ◌∷◌, Option, Some, None}
use Rattle.lk_tree.specs.Tree.{Name, Tree, app, local}
use Rattle.lk_tree.specs.Operations.{Op, add, sub, mul, beq, ble, pow}
use Rattle.lk_rulebook.specs.Names.{named, nat, nat_zero, nat_succ, nat_pred, bool_name, op_name}

-- two sides, and the built-in name in them beside those of Nat itself
pub record Law : Type 0 where
  pub holds : Option Name
  pub left : Tree
  pub right : Tree

abbrev plain_law : Tree → Tree → Law
plain_law a b = record { holds = None; left = a; right = b }

abbrev law_with : Name → Tree → Tree → Law
law_with c a b = record { holds = Some c; left = a; right = b }

-- two numbers of which nothing is known
abbrev x : Tree
x = local 0 (named nat)

abbrev y : Tree
y = local 1 (named nat)

abbrev z : Tree
z = named nat_zero

abbrev s : Tree → Tree
s e = app (named nat_succ) e

abbrev pred : Tree → Tree
pred e = app (named nat_pred) e

abbrev truth_value : Bool → Tree
truth_value b = named (bool_name b)

-- f a b
abbrev of_two : Tree → Tree → Tree → Tree
of_two f a b = app (app f a) b

-- the laws of the operation, where v is to compute it: by recursion on the second number, on both for the comparisons; none of
-- those that are trusted by name
abbrev pub laws_of : Op → Tree → List Law
laws_of add v =
    plain_law (of_two v x z) x
    ∷ plain_law (of_two v x (s y)) (s (of_two v x y))
    ∷ []
laws_of sub v =
    law_with nat_pred (pred z) z
    ∷ law_with nat_pred (pred (s x)) x
    ∷ plain_law (of_two v x z) x
    ∷ law_with nat_pred (of_two v x (s y)) (pred (of_two v x y))
    ∷ []
laws_of mul v =
    plain_law (of_two v x z) z
    ∷ law_with (op_name add) (of_two v x (s y)) (of_two (named (op_name add)) (of_two v x y) x)
    ∷ []
laws_of pow v =
    plain_law (of_two v x z) (s z)
    ∷ law_with (op_name mul) (of_two v x (s y)) (of_two (named (op_name mul)) (of_two v x y) x)
    ∷ []
laws_of beq v =
    law_with (bool_name true) (of_two v z z) (truth_value true)
    ∷ law_with (bool_name false) (of_two v z (s y)) (truth_value false)
    ∷ law_with (bool_name false) (of_two v (s x) z) (truth_value false)
    ∷ plain_law (of_two v (s x) (s y)) (of_two v x y)
    ∷ []
laws_of ble v =
    law_with (bool_name true) (of_two v z z) (truth_value true)
    ∷ law_with (bool_name true) (of_two v z (s y)) (truth_value true)
    ∷ law_with (bool_name false) (of_two v (s x) z) (truth_value false)
    ∷ plain_law (of_two v (s x) (s y)) (of_two v x y)
    ∷ []
laws_of _ v = []

-- the operations with laws
abbrev pub has_laws : Op → Bool
has_laws add = true
has_laws sub = true
has_laws mul = true
has_laws pow = true
has_laws beq = true
has_laws ble = true
has_laws _ = false

-- the operation by which another one's laws are stated, which has to be given by a def
abbrev pub stated_by : Op → Option Op
stated_by mul = Some add
stated_by pow = Some mul
stated_by _ = None
