-- The operations with laws, and the built-in names that stand in the laws.
use Rattle.std.specs.Prelude.{true, false}
use Rattle.lk_tree.specs.Tree.{Name}
use Rattle.lk_tree.specs.Operations.{Op, add, sub, mul, pow, beq, ble}
use Rattle.lk_rulebook.specs.Names.{nat_zero, nat_succ, nat_pred, bool_name, op_name}
use Rattle.lk_laws.specs.declared.operation.LawfulOp.{LawfulOp}
use Rattle.lk_laws.specs.declared.operation.LawfulOp.TheVariants.{Add, Sub, Mul, Pow, Beq, Ble}
use Rattle.lk_laws.specs.declared.constant.Constant.{Constant}
use Rattle.lk_laws.specs.declared.constant.Constant.TheVariants.{Zero, Succ, Pred, False, True, Operation}

abbrev pub op_at : LawfulOp → Op
op_at Add = add
op_at Sub = sub
op_at Mul = mul
op_at Pow = pow
op_at Beq = beq
op_at Ble = ble

abbrev pub constant_name : Constant → Name
constant_name Zero = nat_zero
constant_name Succ = nat_succ
constant_name Pred = nat_pred
constant_name False = bool_name false
constant_name True = bool_name true
constant_name (Operation op) = op_name (op_at op)
