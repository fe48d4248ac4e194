-- The literal step by numbers while it is driven: what it still asks for, and what it comes to.
use Rattle.std.specs.Prelude.{ℕ, zero, suc, ◌≡◌, ◌<◌, ◌+◌, false, length, Option, Some, None}
use Rattle.lk_tree.specs.Tree.{Tree, const}
use Rattle.lk_tree.specs.declared.rule.Rule.TheVariants.{LooseVariable}
use Rattle.lk_rulebook.specs.Place.{Place}
use Rattle.lk_questions.specs.Query.{whnf}
use Rattle.lk_questions.specs.Erased.{Value, a_tree, truth, Steps, asks, gives, refuses}
use Rattle.lk_questions.specs.LiteralLines.{step_of}
use Rattle.lk_questions.specs.Program.{done}
use Rattle.lk_store.specs.Contents.{Contents, name_at, list_at, tree_at}
use Rattle.lk_lit.specs.declared.step.LitPart.{LitPart}
use Rattle.lk_lit.specs.declared.step.LitPart.TheVariants.{Comes}
use Rattle.lk_lit.specs.Steps.{Then, lit_steps, IsKnownPart}
use Rattle.lk_step.specs.declared.operations.Constant.{Constant}
use Rattle.lk_step.specs.Rows.{IsAnswered}

-- a value that is there or not, as an answer
abbrev pub shows : Option Tree → Value
shows None = truth false
shows (Some v) = a_tree v

-- whoever only shows the value, and whoever refuses whatever comes
abbrev pub shown : Then
shown t u r = gives u (shows r)

abbrev pub refusing : Then
refusing t u r = refuses LooseVariable

-- the steps give this value, and ask on the way for no more than so many weak head forms, which
-- cost so much together
abbrev pub FormRun : Place → Steps → Value → ℕ → ℕ → Type 0
FormRun w (gives t v) u n k = (v ≡ u) × (n ≡ 0)
FormRun w (refuses r) u n k = ⊥
FormRun w (asks t q f) u n zero = ⊥
FormRun w (asks t q f) u n (suc k) =
    (e : Tree) × (x : Tree) × (c : ℕ) × (m : ℕ) × (q ≡ whnf e) × IsAnswered w (whnf e) x c
    × FormRun w (f (a_tree x)) u m k × (n ≡ c + m)

-- the part comes to r, for less than the budget; it never answers by itself
pub record IsDriven (w : Place) (c : Contents) (last : Option ℕ) (part : LitPart) (r : Option Tree)
    (left most : ℕ) : Type 0 where
  pub known : IsKnownPart (length c.trees) part
  pub cost : ℕ
  pub run : FormRun w (lit_steps shown w (tree_at c) last part) (shows r) cost left
  pub within : cost < most
  pub never : (u : Option ℕ) (v : Value)
      → lit_steps refusing w (tree_at c) last part ≡ gives u v → ⊥

-- it comes to something
pub record IsGoing (w : Place) (c : Contents) (last : Option ℕ) (part : LitPart) (most : ℕ)
    : Type 0 where
  pub value : Option Tree
  pub left : ℕ
  pub driven : IsDriven w c last part value left most

-- it asks for nothing any more
pub record IsOver (part : LitPart) : Type 0 where
  pub place : Place
  pub contents : Contents
  pub last : Option ℕ
  pub value : Option Tree
  pub most : ℕ
  pub driven : IsDriven place contents last part value zero most

-- it came to this
pub record HasValue (part : LitPart) (value : Option ℕ) : Type 0 where
  pub term : ℕ
  pub is : part ≡ Comes term value

-- the tree is this constant, or the literal step finds none
abbrev pub IsConstantIf : Contents → Tree → Option Constant → Type 0
IsConstantIf d h (Some k) =
    (k.name < length d.names) × (k.levels < length d.lists)
    × (const (name_at d k.name) (list_at d k.levels) ≡ h)
IsConstantIf d h None = (e : Tree) → step_of e h ≡ done None
