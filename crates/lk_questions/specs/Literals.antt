-- The literal step: an operation on numbers is computed.
use Rattle.std.specs.Prelude.{ℕ, ◌^◌, ◌&&◌, nat_eq, nat_lt, List, [], ◌∷◌, length, Option, Some, None, option_map, if◌then◌else◌}
use Rattle.lk_tree.specs.Tree.{Name, Level, Tree, const, lit}
use Rattle.lk_tree.specs.Bind.{bound}
use Rattle.lk_tree.specs.Operations.{Op, succ, log2, add, sub, mul, div, modulo, gcd, beq, ble, land, lor, xor, shift_left, shift_right, pow, arity, Value, number, truth, op_value}
use Rattle.lk_tree.specs.Spine.{args}
use Rattle.lk_tree.specs.declared.rule.Rule.TheVariants.{NoBuiltin}
use Rattle.lk_rulebook.specs.Place.{Entry, Kind}
use Rattle.lk_rulebook.specs.Names.{named, nat_zero, bool_name, op_name}
use Rattle.lk_tree.specs.Mentions.{same_name}
use Rattle.lk_rulebook.specs.Literals.{may_give}
use Rattle.lk_questions.specs.Query.{whnf}
use Rattle.lk_questions.specs.Program.{Program, done, look, asked, ◌>>=◌}
use Rattle.lk_questions.specs.Shapes.{nat_shape}

-- the number of a Lit, or of Nat.zero
abbrev pub numeral_of : Tree → Option ℕ
numeral_of (lit n) = Some n
numeral_of (const c []) = if same_name c nat_zero then Some 0 else None
numeral_of _ = None

-- n before the numbers that come, where all are there
abbrev pub with_first : Option ℕ → Program (Option (List ℕ)) → Program (Option (List ℕ))
with_first None next = done None
with_first (Some n) next = next >>= λ ns. done (option_map (λ rest. n ∷ rest) ns)

-- the numbers of the arguments, up to the first that is no numeral
abbrev pub numerals : List Tree → Program (Option (List ℕ))
numerals [] = done (Some [])
numerals (e ∷ es) = do
  m ← asked (whnf e)
  with_first (numeral_of m) (numerals es)

-- the Lit, unless it would be too large; or Bool.true or Bool.false, which must be given
abbrev pub result_of : Option Value → Program (Option Tree)
result_of (Some (number n)) = done (if nat_lt n (2 ^ 128) then Some (lit n) else None)
result_of (Some (truth b)) = look NoBuiltin (bool_name b) λ g. done (Some (named (bool_name b)))
result_of None = done None

abbrev pub computed : Op → Option (List ℕ) → Program (Option Tree)
computed op None = done None
computed op (Some ns) = do
  u ← nat_shape
  result_of (op_value op ns)

abbrev pub ops : List Op
ops = succ ∷ log2 ∷ add ∷ sub ∷ mul ∷ div ∷ modulo ∷ gcd ∷ beq ∷ ble ∷ land ∷ lor ∷ xor ∷ shift_left ∷ shift_right ∷ pow ∷ []

-- the operation of that name
abbrev pub op_named : List Op → Name → Option Op
op_named [] f = None
op_named (op ∷ rest) f = if same_name (op_name op) f then Some op else op_named rest f

abbrev pub op_step : Option Op → Kind → List Tree → Program (Option Tree)
op_step None k xs = done None
op_step (Some op) k xs =
    if may_give op k && nat_eq (length xs) (arity op) then (do
      ns ← numerals xs
      computed op ns)
    else done None

-- on c, whose head is the constant f ls of this entry
abbrev pub literal_step : Tree → Name → List Level → Entry → Program (Option Tree)
literal_step c f [] g = if nat_eq (bound c) 0 then op_step (op_named ops f) g.kind (args c) else done None
literal_step c f (l ∷ ls) g = done None
