-- What two terms turn into, where one of them unfolds or both do.
use Rattle.std.specs.Prelude.{ℕ, ◌≡◌, ◌<◌, ◌≤◌, true, false, [], ◌∷◌, Option, Some, None}
use Rattle.lk_tree.specs.Tree.{Tree}
use Rattle.lk_tree.specs.WellFormed.{IsWellFormed}
use Rattle.lk_rulebook.specs.Place.{Place}
use Rattle.lk_rulebook.specs.Claims.{Claim}
use Rattle.lk_questions.specs.Query.{same}
use Rattle.lk_questions.specs.Program.{done}
use Rattle.lk_questions.specs.Erased.{Steps, asks, truth, erased}
use Rattle.lk_questions.specs.Pairs.{Line, ◌or_else◌}
use Rattle.lk_questions.specs.Unfolding.{by_unfolding}
use Rattle.lk_written.specs.Line.{delta_rule}
use Rattle.lk_store.specs.Contents.{Contents}
use Rattle.lk_ask.specs.declared.sheet.Pair.{Pair}
use Rattle.lk_ask.specs.declared.query.Query.TheVariants.{Same}
use Rattle.lk_ask.specs.declared.next.Next.{Next}
use Rattle.lk_ask.specs.declared.next.Next.TheVariants.{Ask}
use Rattle.lk_lazy.specs.declared.sheet.LazySheet.{LazySheet}
use Rattle.lk_lazy.specs.Lazies.{unfold_again}
use Rattle.lk_step.specs.declared.step.Row.{Row}
use Rattle.lk_step.specs.Steps.{reduction, StepHolds}
use Rattle.lk_step.specs.Rows.{IsAnswered}
use Rattle.lk_step.specs.Runs.{Runs}
use Rattle.lk_step.specs.Parts.{IsPartIn}

-- x is a, or what a unfolds to
pub record IsTurned (w : Place) (a x : Tree) : Type 0 where
  pub fine : IsWellFormed x
  pub holds : (a ≡ x → ⊥) → StepHolds w (reduction delta_rule a x [])

-- the line says yes, for less than this
pub record SaysYes (w : Place) (line : Line) (most : ℕ) : Type 0 where
  pub cost : ℕ
  pub runs : Runs w line (Some true) cost
  pub within : cost < most

-- the two are the same, which costs no more than this
pub record AreSame (w : Place) (x y : Tree) (most : ℕ) : Type 0 where
  pub cost : ℕ
  pub answered : IsAnswered w (same x y) true cost
  pub within : cost ≤ most

-- a and b turn into these two, which are the same where the line says yes
pub record TurnsTo (w : Place) (line : Line) (a b : Tree) (p : Pair Tree) : Type 0 where
  pub left : IsTurned w a p.left
  pub right : IsTurned w b p.right
  pub asks : (n : ℕ) → Runs w line (Some true) n → AreSame w p.left p.right n

abbrev pub Turns : Place → Line → Tree → Tree → Option (Pair Tree) → Type 0
Turns w line a b None = ⊥
Turns w line a b (Some p) = TurnsTo w line a b p

-- however the line says yes, the row states the claim, for no more
abbrev pub Bears : Place → Contents → Line → Claim → Row → Type 0
Bears w c line claim r = (n : ℕ) → Runs w line (Some true) n → IsPartIn w c r (claim ∷ []) n

-- the two that are asked for their Same next
abbrev pub pair_asked : Steps → Option (Pair Tree)
pair_asked (asks t (same x y) k) = Some (record { left = x; right = y })
pair_asked _ = None

-- their numbers
abbrev pub pair_in : Next ℕ (LazySheet ℕ) → Option (Pair ℕ)
pair_in (Ask (Same x y) s) = Some (record { left = x; right = y })
pair_in _ = None

-- by unfolding a and b these two are asked for first
pub record IsFirst (w : Place) (a b : Tree) (pair : Option (Pair Tree)) : Type 0 where
  pub last : Option ℕ
  pub is : pair ≡ pair_asked (erased w truth last (by_unfolding a b or_else done false))

-- where both unfold, once their arguments were compared, what is asked for is what they turn into
abbrev pub TurnsAgain : Place → Tree → Tree → Type 0
TurnsAgain w a b =
    (pair : Option (Pair Tree)) (last : Option ℕ)
    → pair ≡ pair_asked (erased w truth last (unfold_again w a b))
    → Turns w (by_unfolding a b) a b pair
