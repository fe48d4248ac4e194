-- The literal step of a term that computes: what is read of its arguments, and what a row states by
-- it.
use Rattle.std.specs.Prelude.{ℕ, ◌≡◌, ◌<◌, ◌≤◌, ◌+◌, nat_eq, true, List, [], ◌∷◌, length}
use Rattle.std.specs.Prelude.{Option, Some, None}
use Rattle.lk_tree.specs.Tree.{Tree}
use Rattle.lk_tree.specs.Operations.{Op, arity, op_value}
use Rattle.lk_tree.specs.Spine.{head, args}
use Rattle.lk_rulebook.specs.Place.{Place}
use Rattle.lk_rulebook.specs.Names.{named, op_name}
use Rattle.lk_rulebook.specs.Literals.{IsOperation}
use Rattle.lk_rulebook.specs.Claims.{Claim, reduces}
use Rattle.lk_questions.specs.Query.{whnf}
use Rattle.lk_questions.specs.Literals.{numeral_of, result_of}
use Rattle.lk_questions.specs.LiteralLines.{step_of}
use Rattle.lk_questions.specs.Shapes.{nat_shape}
use Rattle.lk_questions.specs.Tests.{found}
use Rattle.lk_store.specs.Contents.{Contents, tree_at}
use Rattle.lk_step.specs.declared.operations.Operands.{Operands}
use Rattle.lk_step.specs.declared.operations.Operands.TheVariants.{One, Two}
use Rattle.lk_step.specs.declared.step.Row.{Row}
use Rattle.lk_step.specs.Rows.{IsAnswered}
use Rattle.lk_step.specs.Runs.{Runs}
use Rattle.lk_step.specs.Parts.{Asks}

-- the weak head forms of these trees are numerals of these numbers, which is claimed, for so much
-- together
pub data AreRead (w : Place) : List Tree → List ℕ → List Claim → ℕ → Type 0 where
  none_read : AreRead w [] [] [] 0
  one_read : {e v : Tree} {n c m : ℕ} {es : List Tree} {ns : List ℕ} {cs : List Claim} →
      IsAnswered w (whnf e) v c → numeral_of v ≡ Some n → AreRead w es ns cs m →
      AreRead w (e ∷ es) (n ∷ ns) (reduces e v ∷ cs) (c + m)

-- e is an operation of numbers, which comes to v
pub record Computation (w : Place) (e v : Tree) (n : ℕ) : Type 0 where
  pub op : Op
  pub numbers : List ℕ
  pub claims : List Claim
  pub head_is : head e ≡ named (op_name op)
  pub operation : IsOperation w op
  pub count : nat_eq (length (args e)) (arity op) ≡ true
  pub read : AreRead w (args e) numbers claims n
  pub shaped : found w nat_shape ≡ Some tt
  pub result : found w (result_of (op_value op numbers)) ≡ Some (Some v)

-- the literal step of e gives v, for less than this
pub record ComesTo (w : Place) (e v : Tree) (most : ℕ) : Type 0 where
  pub cost : ℕ
  pub runs : Runs w (step_of e (head e)) (Some v) cost
  pub within : cost < most

-- the literal step of e gives no value, and nothing is added to the row
pub record AddsNothing (w : Place) (old new : Row) (e : Tree) : Type 0 where
  pub nothing : (r : Option Tree) (n : ℕ) → Runs w (step_of e (head e)) r n → r ≡ None
  pub same : new ≡ old

-- it gives v, and the row states that e reduces to v, for what it asked
pub record AddsValue (w : Place) (c d : Contents) (old new : Row) (e v : Tree) : Type 0 where
  pub gives : (r : Option Tree) (n : ℕ) → Runs w (step_of e (head e)) r n → r ≡ Some v
  pub asks : (r : Option Tree) (n : ℕ) → Runs w (step_of e (head e)) r n →
      Asks w c d old new (reduces e v) n

-- the one or the other
abbrev pub AddsStep : Place → Contents → Contents → Row → Row → Tree → Option Tree → Type 0
AddsStep w c d old new e None = AddsNothing w old new e
AddsStep w c d old new e (Some v) = AddsValue w c d old new e v

-- where its literal step gives v, the row states that e reduces to v, for what it asked
pub record StatesValue (w : Place) (c d : Contents) (old new : Row) (e v : Tree) : Type 0 where
  pub asks : (n : ℕ) → Runs w (step_of e (head e)) (Some v) n → Asks w c d old new (reduces e v) n

-- it has one argument, or two
abbrev pub HasOperands : Tree → Type 0
HasOperands e = (0 < length (args e)) × (length (args e) ≤ 2)

abbrev pub AreOperands : Contents → Tree → Operands → Type 0
AreOperands c e (One x) = (x < length c.trees) × (args e ≡ tree_at c x ∷ [])
AreOperands c e (Two x y) =
    (x < length c.trees) × (y < length c.trees) × (args e ≡ tree_at c x ∷ tree_at c y ∷ [])
