-- What the operations stand for, and what they give where it is no number above 2 ^ 128 - 1.
use Rattle.std.specs.Prelude.{ℕ, ◌^◌, nat_lt, Option, Some, None, if◌then◌else◌}
use Rattle.lk_tree.specs.Operations as plain
use Rattle.lk_op.specs.declared.op.UnaryOp.{UnaryOp}
use Rattle.lk_op.specs.declared.op.UnaryOp.TheVariants.{Succ, Log2}
use Rattle.lk_op.specs.declared.op.BinaryOp.{BinaryOp}
use Rattle.lk_op.specs.declared.op.BinaryOp.TheVariants.{Add, Sub, Mul, Div, Mod, Gcd, Beq, Ble, Land, Lor, Xor, ShiftLeft, ShiftRight, Pow}
use Rattle.lk_op.specs.declared.op.Value.{Value}
use Rattle.lk_op.specs.declared.op.Value.TheVariants.{Number, Truth}

abbrev pub unary_at : UnaryOp → plain.Op
unary_at Succ = plain.succ
unary_at Log2 = plain.log2

abbrev pub binary_at : BinaryOp → plain.Op
binary_at Add = plain.add
binary_at Sub = plain.sub
binary_at Mul = plain.mul
binary_at Div = plain.div
binary_at Mod = plain.modulo
binary_at Gcd = plain.gcd
binary_at Beq = plain.beq
binary_at Ble = plain.ble
binary_at Land = plain.land
binary_at Lor = plain.lor
binary_at Xor = plain.xor
binary_at ShiftLeft = plain.shift_left
binary_at ShiftRight = plain.shift_right
binary_at Pow = plain.pow

abbrev pub value_at : Value → plain.Value
value_at (Number n) = plain.number n
value_at (Truth b) = plain.truth b

-- a number above 2 ^ 128 - 1 is none
abbrev pub fitting : Option plain.Value → Option plain.Value
fitting (Some (plain.number n)) = if nat_lt n (2 ^ 128) then Some (plain.number n) else None
fitting (Some (plain.truth b)) = Some (plain.truth b)
fitting None = None

-- the number n, where it fits
abbrev pub fits : ℕ → Option ℕ
fits n = if nat_lt n (2 ^ 128) then Some n else None
