-- Programs and answers in which the question's type is forgotten, as a loop over a stack has them. Beside each answer stands
-- the last unit that was looked at for it: the greatest number, where there is one.
use Rattle.std.specs.Prelude.{◌≡◌, ◌<◌, ◌≤◌, ℕ, ◌-◌, Bool, Option, Some, None}
use Rattle.lk_tree.specs.Tree.{Tree}
use Rattle.lk_tree.specs.declared.rule.Rule.{Rule}
use Rattle.lk_tree.specs.declared.rule.Rule.TheVariants.{LooseVariable}
use Rattle.lk_rulebook.specs.Place.{Place, Entry}
use Rattle.lk_questions.specs.Query.{Query, AnswerTo, core, whnf, infer, same}
use Rattle.lk_questions.specs.Program.{Program, Table, done, refuse, ask, look}
use Rattle.lk_questions.specs.Answer.{Outcome, answered, refused, spent, later, refusal, plain_answer}

-- the answer of any question
pub data Value : Type 0 where
  a_tree : Tree → Value
  truth : Bool → Value

abbrev pub value_of : (q : Query) → AnswerTo q → Value
value_of (core e) v = a_tree v
value_of (whnf e) v = a_tree v
value_of (infer e) v = a_tree v
value_of (same a b) v = truth v

-- a program at a place, whose look-ups are made: what it does next, and the last unit that was looked at before
pub data Steps : Type 0 where
  asks : Option ℕ → Query → (Value → Steps) → Steps
  gives : Option ℕ → Value → Steps
  refuses : Rule → Steps

-- an answer of the other kind never comes
abbrev pub with_tree : (Tree → Steps) → Value → Steps
with_tree k (a_tree t) = k t
with_tree k (truth b) = refuses LooseVariable

abbrev pub with_truth : (Bool → Steps) → Value → Steps
with_truth k (truth b) = k b
with_truth k (a_tree t) = refuses LooseVariable

abbrev pub with_answer : (q : Query) → (AnswerTo q → Steps) → Value → Steps
with_answer (core e) k = with_tree k
with_answer (whnf e) k = with_tree k
with_answer (infer e) k = with_tree k
with_answer (same a b) k = with_truth k

-- a look-up at this unit, after those that end at t
abbrev pub looked : Rule → Option ℕ → Option Entry → ℕ → Option Rule → (Option ℕ → Entry → Steps) → Steps
looked r t None unit flaw next = refuses (refusal r flaw)
looked r t (Some e) unit flaw next = next (later t (Some unit)) e

-- the steps of a program, where t is the last unit that was looked at before
abbrev pub erased : {A : Type 0} → Place → (A → Value) → Option ℕ → Program A → Steps
erased w f t (done v) = gives t (f v)
erased w f t (refuse r) = refuses r
erased w f t (ask q k) = asks t q (with_answer q (λ v. erased w f None (k v)))
erased w f t (look r c k) = looked r t (w.means c) (w.origin c) (w.flaw c) (λ u e. erased w f u (k e))

-- the steps of a program, where k goes on with its value and the last unit that was looked at
abbrev pub erased_then : {R : Type 0} → Place → (Option ℕ → R → Steps) → Option ℕ → Program R → Steps
erased_then w k t (done v) = k t v
erased_then w k t (refuse r) = refuses r
erased_then w k t (ask q g) = asks t q (with_answer q (λ v. erased_then w k None (g v)))
erased_then w k t (look r c g) = looked r t (w.means c) (w.origin c) (w.flaw c) (λ u e. erased_then w k u (g e))

-- an answer with what is left of the budget and the last unit that was looked at, a refusal, or the budget is used up
pub data Out : Type 0 where
  finished : Value → ℕ → Option ℕ → Out
  stopped : Rule → Out
  used_up : Out

-- the outcome after units were looked at of which t is the last
abbrev pub seen : Option ℕ → Out → Out
seen t (finished v left u) = finished v left (later t u)
seen t (stopped r) = stopped r
seen t used_up = used_up

abbrev pub go_on : Out → (Value → ℕ → Out) → Out
go_on (finished v left t) k = seen t (k v left)
go_on (stopped r) k = stopped r
go_on used_up k = used_up

-- the run of the steps, where `answer` answers what they ask
abbrev pub run_steps : (Query → ℕ → Out) → Steps → ℕ → Out
run_steps answer (asks t q k) left = seen t (go_on (answer q left) (λ v rest. run_steps answer (k v) rest))
run_steps answer (gives t v) left = finished v left t
run_steps answer (refuses r) left = stopped r

-- the outcome under a budget, by what is left of it
abbrev pub left_of : {A : Type 0} → (A → Value) → ℕ → Outcome A → Out
left_of f budget (answered v c t) = finished (f v) (budget - c) t
left_of f budget (refused r) = stopped r
left_of f budget spent = used_up

-- the plain answer of a question by a table, by what is left
unfoldable pub out_of : Table → Place → Query → ℕ → Out
out_of table w q budget = left_of (value_of q) budget (plain_answer table w q budget)

-- what the question does, by its row of the table
abbrev pub steps_of : Table → Place → Query → Steps
steps_of table w q = erased w (value_of q) None (table q)

-- v comes at just the cost c, with t the last unit that was looked at: under each budget of at least c, and below it the budget is
-- used up
pub record IsAnsweredAt (f : ℕ → Out) (v : Value) (c : ℕ) (t : Option ℕ) : Type 0 where
  pub some : 0 < c
  pub enough : (b : ℕ) → c ≤ b → f b ≡ finished v (b - c) t
  pub too_little : (b : ℕ) → b < c → f b ≡ used_up
