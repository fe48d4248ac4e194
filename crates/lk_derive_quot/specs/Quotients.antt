-- What a run of Core says of a constant of quotients that is applied.
use Rattle.std.specs.Prelude.{ℕ, ◌≡◌, ◌<◌, ◌≤◌, ◌+◌, List, [], ◌∷◌, length, take, drop}
use Rattle.std.specs.Prelude.{Option, Some, None, slice_get}
use Rattle.lk_tree.specs.Tree.{Name, Level, Tree, const, app}
use Rattle.lk_tree.specs.Spine.{apply, head, args}
use Rattle.lk_tree.specs.WellFormed.{IsWellFormed}
use Rattle.lk_rulebook.specs.Place.{Place}
use Rattle.lk_rulebook.specs.Names.{quot_mk}
use Rattle.lk_rulebook.specs.Quotients.{IsQuot}
use Rattle.lk_rulebook.specs.Claims.{reduces}
use Rattle.lk_questions.specs.Query.{core, whnf}
use Rattle.lk_questions.specs.Erased.{a_tree, erased}
use Rattle.lk_questions.specs.Quotients.{core_quot}
use Rattle.lk_written.specs.Line.{ReductionRule}
use Rattle.lk_store.specs.Contents.{Contents, tree_at}
use Rattle.lk_quot.specs.Redexes.{PlainRedex, redex_of, redex_in, form_rest}
use Rattle.lk_step.specs.declared.step.Row.{Row}
use Rattle.lk_step.specs.Steps.{reduction, StepHolds}
use Rattle.lk_step.specs.Rows.{IsAnswered}
use Rattle.lk_step.specs.Runs.{Runs}
use Rattle.lk_step.specs.Nexts.{core_asked, form_asked}
use Rattle.lk_step.specs.Parts.{IsPartIn, States}
use Rattle.lk_derive_quot.specs.declared.ends.Front.{Front}
use Rattle.lk_derive_quot.specs.declared.ends.Ends.{Ends}

-- the tree whose weak head form Core asks for at e, whose head is a constant of this name
abbrev pub major_at : Place → Option ℕ → Name → Tree → Option Tree
major_at w last c e = form_asked (erased w a_tree last (core_quot e c (args e)))

-- the tree whose Core is asked for next, where W is the weak head form of the major premise of e
abbrev pub reduct_at : Place → Option ℕ → Tree → Tree → Option Tree
reduct_at w last e W = core_asked (erased w a_tree last (form_rest e (redex_in e) W))

-- the head of e is a constant of this name
pub record IsNamed (c : Name) (e : Tree) : Type 0 where
  pub levels : List Level
  pub head_is : head e ≡ const c levels

-- e is Quot.lift or Quot.ind at the major premise m, by a quotient unit
pub record IsRedexAt (w : Place) (c : Name) (e m : Tree) : Type 0 where
  pub levels : List Level
  pub head_is : head e ≡ const c levels
  pub given : IsQuot w c
  pub redex : PlainRedex
  pub redex_is : redex_of c (args e) ≡ Some redex
  pub major_is : redex.major ≡ m

-- what Core of e, which is that, asks of m, and what it does behind it
pub record AtMajor (w : Place) (most : ℕ) (c : Name) (e m : Tree) : Type 0 where
  pub at : IsRedexAt w c e m
  pub value : Tree
  pub cost : ℕ
  pub answered : IsAnswered w (core e) value cost
  pub within : cost ≤ most
  pub fine : IsWellFormed e
  pub form : Tree
  pub first : ℕ
  pub second : ℕ
  pub formed : IsAnswered w (whnf m) form first
  pub runs : Runs w (form_rest e (Some at.redex) form) value second
  pub paid : first + second < cost

-- W, the weak head form of the major premise, is an element of a quotient, and x is what Core asks for next
pub record OnElement (w : Place) (p : PlainRedex) (W x v : Tree) (n : ℕ) : Type 0 where
  pub levels : List Level
  pub domain : Tree
  pub relation : Tree
  pub element : Tree
  pub form_is : W ≡ apply (const quot_mk levels) (domain ∷ relation ∷ element ∷ [])
  pub given : IsQuot w quot_mk
  pub next_is : x ≡ apply (app p.function element) p.rest
  pub answered : IsAnswered w (core x) v n

-- v, which is Core of e, comes of the next tree, or it is e
abbrev pub Takes : Place → PlainRedex → Tree → Tree → Tree → ℕ → Option Tree → Type 0
Takes w p e W v n None = v ≡ e
Takes w p e W v n (Some x) = OnElement w p W x v n

-- the row states the weak head form W of the major premise m of e; what Core of e does behind it
pub record AtForm (w : Place) (d : Contents) (r : Row) (most : ℕ) (c : Name) (e m W : Tree)
    (next : Option Tree) : Type 0 where
  pub at : IsRedexAt w c e m
  pub value : Tree
  pub cost : ℕ
  pub answered : IsAnswered w (core e) value cost
  pub within : cost ≤ most
  pub fine : IsWellFormed e
  pub form_fine : IsWellFormed W
  pub first : ℕ
  pub second : ℕ
  pub paid : first + second < cost
  pub part : IsPartIn w d r (reduces m W ∷ []) first
  pub takes : Takes w at.redex e W value second next

-- a and b are these two with the same arguments behind them, of which there are so many
pub record AreBefore (front short a b : Tree) (behind : ℕ) : Type 0 where
  pub arguments : List Tree
  pub many : length arguments ≡ behind
  pub left : a ≡ apply front arguments
  pub right : b ≡ apply short arguments

-- from front >> short the row states a >> b
pub record StatesBehind (c : Contents) (old new : Row) (front short a b : Tree) (behind : ℕ)
    : Type 0 where
  pub states : (w : Place) → AreBefore front short a b behind → IsWellFormed a → IsWellFormed b →
      States w c old new (reduces front short ∷ []) (reduces a b)

-- Core of e is that of x, and the two are an eliminator on its major premise m, and its function on
-- an element, with the same arguments behind them
pub record AtStep (w : Place) (d : Contents) (r : Row) (most : ℕ) (rule : ReductionRule)
    (e m W x front short : Tree) (behind : ℕ) : Type 0 where
  pub value : Tree
  pub cost : ℕ
  pub answered : IsAnswered w (core e) value cost
  pub within : cost ≤ most
  pub fine : IsWellFormed e
  pub next_fine : IsWellFormed x
  pub first : ℕ
  pub second : ℕ
  pub paid : first + second < cost
  pub part : IsPartIn w d r (reduces m W ∷ []) first
  pub next : IsAnswered w (core x) value second
  pub holds : StepHolds w (reduction rule front short (reduces m W ∷ []))
  pub before : AreBefore front short e x behind

-- an application
abbrev pub IsApplied : Tree → Type 0
IsApplied (app f a) = Unit {0}
IsApplied _ = ⊥

-- a is its argument
abbrev pub IsLast : Tree → Tree → Type 0
IsLast e a = (f b : Tree) → e ≡ app f b → a ≡ b

-- the eliminator of e, which reaches so far, with its arguments up to there, the fourth of them, and
-- how many are behind
pub record IsFront (c : Contents) (n : ℕ) (e : Tree) (p : Front) : Type 0 where
  pub front_in : p.front < length c.trees
  pub function_in : p.function < length c.trees
  pub front_is : tree_at c p.front ≡ apply (head e) (take n (args e))
  pub function_is : slice_get (args e) 3 ≡ Some (tree_at c p.function)
  pub behind_is : p.behind ≡ length (drop n (args e))

-- the two trees of its step, where its major premise is W
pub record AreEnds (n : ℕ) (e W front short : Tree) (behind : ℕ) : Type 0 where
  pub front_is : front ≡ apply (head e) (take n (args e))
  pub short_is : (f a g : Tree) → slice_get (args e) 3 ≡ Some f → W ≡ app g a → short ≡ app f a
  pub behind_is : behind ≡ length (drop n (args e))

pub record AreEndsIn (c : Contents) (n : ℕ) (e W : Tree) (p : Ends) : Type 0 where
  pub front_in : p.front < length c.trees
  pub short_in : p.short < length c.trees
  pub are : AreEnds n e W (tree_at c p.front) (tree_at c p.short) p.behind
