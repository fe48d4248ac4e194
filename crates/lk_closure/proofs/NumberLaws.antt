-- What is asked of a def that is named as an operation with laws keeps to a set of names.
use Rattle.std.proofs.Common.{nat_eq, List, [], ◌∷◌, length, Option, Some, None, true, false}
use Rattle.lk_tree.specs.Tree.{Name, Tree}
use Rattle.lk_tree.specs.Operations.{Op, succ, log2, add, sub, mul, div, modulo, gcd, beq, ble, land, lor, xor, shift_left, shift_right, pow}
use Rattle.lk_tree.specs.declared.rule.Rule.TheVariants.{NatLaw}
use Rattle.lk_rulebook.specs.Names.{op_name}
use Rattle.lk_rulebook.specs.NumberLaws.{Law, laws_of, stated_by}
use Rattle.lk_rulebook.specs.Literals.{by_def}
use Rattle.lk_questions.specs.Query.{same}
use Rattle.lk_questions.specs.Program.{done, asked, ◌>>=◌}
use Rattle.lk_questions.specs.Steps.{given}
use Rattle.lk_questions.specs.Shapes.{nat_shape}
use Rattle.lk_questions.specs.NumberLaws.{def_given, held_given, laws_hold, law_steps}
use Rattle.lk_closure.proofs.Names.{Over, HasBuiltins}
use Rattle.lk_closure.proofs.Within.{Within}
use Rattle.lk_closure.proofs.Pieces.{Any, within_bind, within_given}
use Rattle.lk_closure.proofs.Literals.{within_nat_shape}

abbrev NameOver : (Name → Type 0) → Option Name → Type 0
NameOver P None = Unit {0}
NameOver P (Some c) = P c

abbrev StatedOver : (Name → Type 0) → Option Op → Type 0
StatedOver P None = Unit {0}
StatedOver P (Some op) = P (op_name op)

abbrev LawsOver : (Name → Type 0) → List Law → Type 0
LawsOver P [] = Unit {0}
LawsOver P (law ∷ laws) = (NameOver P law.holds × (Over P law.left × Over P law.right)) × LawsOver P laws

within_held : (P : Name → Type 0) (o : Option Name) → NameOver P o → Within P (held_given o) Any
within_held P None h = tt
within_held P (Some c) h = (h, λ g o. tt)

within_def_given : (P : Name → Type 0) (o : Option Op) → StatedOver P o → Within P (def_given o) Any
within_def_given P None h = tt
within_def_given P (Some op) h = (h, λ g o. within_given P (by_def g.kind) NatLaw (done tt) Any tt)

within_laws_hold : (P : Name → Type 0) (laws : List Law) → LawsOver P laws → Within P (laws_hold laws) Any
within_laws_hold P [] h = tt
within_laws_hold P (law ∷ laws) h =
    within_bind P (held_given law.holds) (λ u. asked (same law.left law.right) >>= λ equal. given equal NatLaw (laws_hold laws)) Any Any (within_held P law.holds h.0.0)
    (λ u a. (h.0.1, λ equal x. within_given P equal NatLaw (laws_hold laws) Any (within_laws_hold P laws h.1)))

stated_over : (P : Name → Type 0) → HasBuiltins P → (op : Op) → StatedOver P (stated_by op)
stated_over P b mul = b.of_add
stated_over P b pow = b.of_mul
stated_over P b succ = tt
stated_over P b log2 = tt
stated_over P b add = tt
stated_over P b sub = tt
stated_over P b div = tt
stated_over P b modulo = tt
stated_over P b gcd = tt
stated_over P b beq = tt
stated_over P b ble = tt
stated_over P b land = tt
stated_over P b lor = tt
stated_over P b xor = tt
stated_over P b shift_left = tt
stated_over P b shift_right = tt

module _ (P : Name → Type 0) (b : HasBuiltins P) (v : Tree) (o : Over P v) where
  -- a number of which nothing is known, zero, and the successor of a number are over the built-in names
  laws_over : (op : Op) → LawsOver P (laws_of op v)
  laws_over add = (
    (tt, (((o, b.of_nat), b.of_zero), b.of_nat)),
    ((tt, (((o, b.of_nat), (b.of_succ, b.of_nat)), (b.of_succ, ((o, b.of_nat), b.of_nat)))), tt),
  )
  laws_over sub = (
    (b.of_pred, ((b.of_pred, b.of_zero), b.of_zero)),
    (
      (b.of_pred, ((b.of_pred, (b.of_succ, b.of_nat)), b.of_nat)),
      (
        (tt, (((o, b.of_nat), b.of_zero), b.of_nat)),
        ((b.of_pred, (((o, b.of_nat), (b.of_succ, b.of_nat)), (b.of_pred, ((o, b.of_nat), b.of_nat)))), tt),
      ),
    ),
  )
  laws_over mul = (
    (tt, (((o, b.of_nat), b.of_zero), b.of_zero)),
    ((b.of_add, (((o, b.of_nat), (b.of_succ, b.of_nat)), ((b.of_add, ((o, b.of_nat), b.of_nat)), b.of_nat))), tt),
  )
  laws_over pow = (
    (tt, (((o, b.of_nat), b.of_zero), (b.of_succ, b.of_zero))),
    ((b.of_mul, (((o, b.of_nat), (b.of_succ, b.of_nat)), ((b.of_mul, ((o, b.of_nat), b.of_nat)), b.of_nat))), tt),
  )
  laws_over beq = (
    (b.of_bool true, (((o, b.of_zero), b.of_zero), b.of_bool true)),
    (
      (b.of_bool false, (((o, b.of_zero), (b.of_succ, b.of_nat)), b.of_bool false)),
      (
        (b.of_bool false, (((o, (b.of_succ, b.of_nat)), b.of_zero), b.of_bool false)),
        ((tt, (((o, (b.of_succ, b.of_nat)), (b.of_succ, b.of_nat)), ((o, b.of_nat), b.of_nat))), tt),
      ),
    ),
  )
  laws_over ble = (
    (b.of_bool true, (((o, b.of_zero), b.of_zero), b.of_bool true)),
    (
      (b.of_bool true, (((o, b.of_zero), (b.of_succ, b.of_nat)), b.of_bool true)),
      (
        (b.of_bool false, (((o, (b.of_succ, b.of_nat)), b.of_zero), b.of_bool false)),
        ((tt, (((o, (b.of_succ, b.of_nat)), (b.of_succ, b.of_nat)), ((o, b.of_nat), b.of_nat))), tt),
      ),
    ),
  )
  laws_over succ = tt
  laws_over log2 = tt
  laws_over div = tt
  laws_over modulo = tt
  laws_over gcd = tt
  laws_over land = tt
  laws_over lor = tt
  laws_over xor = tt
  laws_over shift_left = tt
  laws_over shift_right = tt

pub within_laws : (P : Name → Type 0) → HasBuiltins P → (o : Option Op) (ps : List Name) (v : Tree) → Over P v → Within P (law_steps o ps v) Any
within_laws P b None ps v h = tt
within_laws P b (Some op) ps v h =
    within_bind P nat_shape (λ u. given (nat_eq (length ps) 0) NatLaw (def_given (stated_by op) >>= λ y. laws_hold (laws_of op v))) Any Any (within_nat_shape P b)
    (λ u a. within_given P (nat_eq (length ps) 0) NatLaw (def_given (stated_by op) >>= λ y. laws_hold (laws_of op v)) Any
    (within_bind P (def_given (stated_by op)) (λ y. laws_hold (laws_of op v)) Any Any (within_def_given P (stated_by op) (stated_over P b op)) (λ y x. within_laws_hold P (laws_of op v) (laws_over P b v h op))))
