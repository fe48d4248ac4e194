-- Programs run as questions are answered, under what is left, and then whatever comes next. What comes next need not be a program: a check goes
-- on at a place that has grown.
use Rattle.std.specs.Prelude.{◌≡◌, ℕ, Bool, true, Option, None, Some, Ok, Err, Result}
use Rattle.lk_tree.specs.Tree.{Tree}
use Rattle.lk_tree.specs.declared.rule.Rule.{Rule}
use Rattle.lk_tree.specs.declared.rule.Rule.TheVariants.{LooseVariable}
use Rattle.lk_rulebook.specs.Place.{Place, Entry}
use Rattle.lk_questions.specs.Query.{Query, AnswerTo, core, whnf, infer, same}
use Rattle.lk_questions.specs.Program.{Program, Table, done, refuse, ask, look}
use Rattle.lk_questions.specs.Answer.{refusal}
use Rattle.lk_questions.specs.Erased.{Value, a_tree, truth, erased, Out, finished, stopped, seen, go_on, run_steps, out_of}
use Rattle.lk_questions.specs.Declarations.{Yes}
use Rattle.lk_ask.specs.declared.stop.Stop.{Stop}
use Rattle.lk_ask.specs.declared.stop.Stop.TheVariants.{No, Spent, NoMemory}
use Rattle.lk_ask.specs.Asking.{Standing}
use Rattle.lk_ask.specs.Outcomes.{IsStop}

-- an answer of the other kind never comes
abbrev pub tree_then : (Tree → ℕ → Out) → Value → ℕ → Out
tree_then k (a_tree t) left = k t left
tree_then k (truth b) left = stopped LooseVariable

abbrev pub truth_then : (Bool → ℕ → Out) → Value → ℕ → Out
truth_then k (truth b) left = k b left
truth_then k (a_tree t) left = stopped LooseVariable

abbrev pub answer_then : (q : Query) → (AnswerTo q → ℕ → Out) → Value → ℕ → Out
answer_then (core e) k = tree_then k
answer_then (whnf e) k = tree_then k
answer_then (infer e) k = tree_then k
answer_then (same a b) k = truth_then k

abbrev pub look_then : Rule → Option Entry → ℕ → Option Rule → (Entry → Out) → Out
look_then r None unit flaw k = stopped (refusal r flaw)
look_then r (Some e) unit flaw k = seen (Some unit) (k e)

-- the run of a program, and with what it gives and what is left then of what comes next
abbrev pub run_then : {A : Type 0} → (Query → ℕ → Out) → Place → Program A → ℕ → (A → ℕ → Out) → Out
run_then answer w (done v) left k = k v left
run_then answer w (refuse r) left k = stopped r
run_then answer w (ask q f) left k = go_on (answer q left) (answer_then q (λ v rest. run_then answer w (f v) rest k))
run_then answer w (look r c f) left k = look_then r (w.means c) (w.origin c) (w.flaw c) (λ e. run_then answer w (f e) left k)

-- the one outcome is the other, after units were looked at
abbrev pub Passes : Out → Out → Type 0
Passes o p = (last : Option ℕ) × (o ≡ seen last p)

-- the program gives the value, and so much is left: whatever comes next goes on there, after units were looked at
pub record Goes {B A : Type 0} (s : Standing B) (p : Program A) (before : ℕ) (v : A) (left : ℕ) : Type 0 where
  pub on : (k : A → ℕ → Out) → Passes (run_then (out_of s.table s.place) s.place p before k) (k v left)

-- the program stops, whatever comes next
pub record Halts {B A : Type 0} (s : Standing B) (p : Program A) (before : ℕ) (stop : Stop) : Type 0 where
  pub stops : (k : A → ℕ → Out) → IsStop (run_then (out_of s.table s.place) s.place p before k) stop

-- the program gives what the result stands for, or stops
abbrev pub ComesTo : {B A X : Type 0} → Standing B → Program A → ℕ → (X → A) → ℕ → Result X Stop → Type 0
ComesTo s p before value left (Ok x) = Goes s p before (value x) left
ComesTo s p before value left (Err stop) = Halts s p before stop

-- a program that asks nothing, and refuses where the result says so
abbrev pub Refuses : {A : Type 0} → Program A → Stop → Type 0
Refuses p (No r) = p ≡ refuse r
Refuses p Spent = ⊥
Refuses p NoMemory = Unit {0}

abbrev pub Settles : {A X : Type 0} → Program A → (X → A) → Result X Stop → Type 0
Settles p value (Ok x) = p ≡ done (value x)
Settles p value (Err stop) = Refuses p stop

-- a program's run with nothing after it is the run of its steps: the two ways to say what a check comes to are one
abbrev pub CoursesAreSteps : Type 0
CoursesAreSteps = (table : Table) (w : Place) (p : Program Yes) (b : ℕ)
    → run_steps (out_of table w) (erased w (λ y. truth true) None p) b ≡ run_then (out_of table w) w p b (λ y left. finished (truth true) left None)
