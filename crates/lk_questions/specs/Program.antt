-- What a question does once it is opened: it asks, looks names up, and is done or refused.
use Rattle.lk_tree.specs.Tree.{Name}
use Rattle.lk_tree.specs.declared.rule.Rule.{Rule}
use Rattle.lk_rulebook.specs.Place.{Entry}
use Rattle.lk_questions.specs.Query.{Query, AnswerTo}

-- look r c k: c is looked up, and where nothing gives it the outcome is r
pub data Program (A : Type 0) : Type 0 where
  done : A → Program A
  refuse : Rule → Program A
  ask : (q : Query) → (AnswerTo q → Program A) → Program A
  look : Rule → Name → (Entry → Program A) → Program A

infixl 20 ◌>>=◌
-- first p, then k of what it gave
abbrev pub ◌>>=◌ : {A B : Type 0} → Program A → (A → Program B) → Program B
◌>>=◌ (done v) k = k v
◌>>=◌ (refuse r) k = refuse r
◌>>=◌ (ask q f) k = ask q (λ v. ◌>>=◌ (f v) k)
◌>>=◌ (look r c f) k = look r c (λ e. ◌>>=◌ (f e) k)

abbrev pub asked : (q : Query) → Program (AnswerTo q)
asked q = ask q (λ v. done v)

-- what each question does
abbrev pub Table : Type 0
Table = (q : Query) → Program (AnswerTo q)
