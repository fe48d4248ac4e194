-- The plain answer of a question at a place under a budget.
use Rattle.std.specs.Prelude.{ℕ, zero, suc, ◌+◌, ◌-◌, Option, Some, None}
use Rattle.lk_tree.specs.declared.rule.Rule.{Rule}
use Rattle.lk_tree.specs.declared.rule.Rule.TheVariants.{QuotShape}
use Rattle.lk_rulebook.specs.Place.{Place, Entry}
pub use Rattle.lk_rulebook.specs.Units.{later}
use Rattle.lk_questions.specs.Query.{Query, AnswerTo}
use Rattle.lk_questions.specs.Program.{Program, done, refuse, ask, look, Table}

-- answered v c t: the value, its cost, and the greatest number of a unit that was looked at
pub data Outcome (A : Type 0) : Type 0 where
  answered : A → ℕ → Option ℕ → Outcome A
  refused : Rule → Outcome A
  spent : Outcome A

-- the outcome after c was paid and t was looked at
abbrev pub after : {A : Type 0} → ℕ → Option ℕ → Outcome A → Outcome A
after c t (answered v d u) = answered v (c + d) (later t u)
after c t (refused r) = refused r
after c t spent = spent

abbrev pub and_then : {A B : Type 0} → Outcome A → (A → ℕ → Outcome B) → Outcome B
and_then (answered v c t) next = after c t (next v c)
and_then (refused r) next = refused r
and_then spent next = spent

-- why a look-up is refused: the flaw's rule where the giving unit has a flaw, else r; a look-up for QuotShape says QuotShape in
-- both cases
abbrev pub refusal : Rule → Option Rule → Rule
refusal r None = r
refusal QuotShape (Some f) = QuotShape
refusal r (Some f) = f

-- what a look-up gives
abbrev pub looked_up : {A : Type 0} → Rule → Option Entry → ℕ → Option Rule → (Entry → Outcome A) → Outcome A
looked_up r None unit flaw next = refused (refusal r flaw)
looked_up r (Some e) unit flaw next = after 0 (Some unit) (next e)

-- the outcome of p with so much left, where the questions that it asks are answered by the given function
abbrev pub outcome_of : {A : Type 0} → Place → ((q : Query) → ℕ → Outcome (AnswerTo q)) → ℕ → Program A → Outcome A
outcome_of w answer left (done v) = answered v 0 None
outcome_of w answer left (refuse r) = refused r
outcome_of w answer left (ask q k) = and_then (answer q left) (λ v c. outcome_of w answer (left - c) (k v))
outcome_of w answer left (look r c k) = looked_up r (w.means c) (w.origin c) (w.flaw c) (λ e. outcome_of w answer left (k e))

-- no question is answered with nothing left; the first number bounds how deep questions go
unfoldable pub answer_to_depth : Table → Place → ℕ → (q : Query) → ℕ → Outcome (AnswerTo q)
answer_to_depth table w zero q left = spent
answer_to_depth table w (suc depth) q zero = spent
answer_to_depth table w (suc depth) q (suc left) = after 1 None (outcome_of w (answer_to_depth table w depth) left (table q))

-- the plain answer: a question under a budget cannot go deeper than that budget
abbrev pub plain_answer : Table → Place → (q : Query) → ℕ → Outcome (AnswerTo q)
plain_answer table w q budget = answer_to_depth table w budget q budget

-- P of the answer, its cost and the greatest number of a unit that was looked at, where there is an answer
abbrev pub IfAnswered : {A : Type 0} → Outcome A → (A → ℕ → Option ℕ → Type 0) → Type 0
IfAnswered (answered v c t) P = P v c t
IfAnswered (refused r) P = Unit {0}
IfAnswered spent P = Unit {0}
