-- Which operation on numbers a constant stands for.
use Rattle.std.specs.Prelude.{◌≡◌, ◌<◌, ℕ, Bool, true, false, nat_eq, List, [], ◌∷◌, length, codes, Option, Some, None, if◌then◌else◌}
use Rattle.std.specs.Str.{bytes_eq}
use Rattle.lk_tree.specs.Tree.{Name, Level, Tree, app}
use Rattle.lk_tree.specs.Bind.{bound}
use Rattle.lk_tree.specs.Operations.{Op, succ, log2, add, sub, mul, div, modulo, gcd, beq, ble, land, lor, xor, shift_left, shift_right, pow, arity}
use Rattle.lk_rulebook.specs.Place.{Kind}
use Rattle.lk_rulebook.specs.Literals.{may_give}
use Rattle.lk_questions.specs.Literals.{ops, op_named}
use Rattle.lk_op.specs.Ops.{unary_at, binary_at}
use Rattle.lk_store.specs.Contents.{Contents, tree_at}
use Rattle.lk_lit.specs.declared.op.Operation.{Operation}
use Rattle.lk_lit.specs.declared.op.Operation.TheVariants.{Unary, Binary}
use Rattle.lk_lit.specs.declared.op.Applied.{Applied}
use Rattle.lk_lit.specs.declared.op.Applied.TheVariants as applied

abbrev pub operation_at : Operation → Op
operation_at (Unary op) = unary_at op
operation_at (Binary op) = binary_at op

-- the last component of its name; the first one is Nat
abbrev pub op_word : Op → List ℕ
op_word succ = codes "succ"
op_word log2 = codes "log2"
op_word add = codes "add"
op_word sub = codes "sub"
op_word mul = codes "mul"
op_word div = codes "div"
op_word modulo = codes "mod"
op_word gcd = codes "gcd"
op_word beq = codes "beq"
op_word ble = codes "ble"
op_word land = codes "land"
op_word lor = codes "lor"
op_word xor = codes "xor"
op_word shift_left = codes "shiftLeft"
op_word shift_right = codes "shiftRight"
op_word pow = codes "pow"

-- the one of these that has this word
abbrev pub op_of_word : List Op → List ℕ → Option Op
op_of_word [] w = None
op_of_word (op ∷ rest) w = if bytes_eq w (op_word op) then Some op else op_of_word rest w

-- comparisons, operations on bits, and powers
abbrev pub bit_ops : List Op
bit_ops = beq ∷ ble ∷ land ∷ lor ∷ xor ∷ shift_left ∷ shift_right ∷ pow ∷ []

-- the operation of this name
unfoldable pub named_op : Name → Option Op
named_op f = op_named ops f

-- the operation, where a constant of this kind may stand for it
abbrev pub op_of_kind : Option Op → Kind → Option Op
op_of_kind (Some op) k = if may_give op k then Some op else None
op_of_kind None k = None

-- the operation that the constant f ls of this kind stands for, which is the head of c
abbrev pub op_of_constant : Tree → Name → List Level → Kind → Option Op
op_of_constant c f [] k = if nat_eq (bound c) 0 then op_of_kind (named_op f) k else None
op_of_constant c f (l ∷ ls) k = None

-- it is an application
abbrev pub is_app : Tree → Bool
is_app (app f a) = true
is_app _ = false

-- xs are as many as the operation takes, and these; else there are none
abbrev pub AreArguments : Contents → Operation → List Tree → Option Applied → Type 0
AreArguments c op xs None = nat_eq (length xs) (arity (operation_at op)) ≡ false
AreArguments c op xs (Some (applied.Unary o a)) = (op ≡ Unary o) × (a < length c.trees) × (xs ≡ tree_at c a ∷ [])
AreArguments c op xs (Some (applied.Binary o a b)) =
    (op ≡ Binary o) × (a < length c.trees) × (b < length c.trees) × (xs ≡ tree_at c a ∷ tree_at c b ∷ [])
