-- What whoever answers questions tells of one that is answered within a budget.
use Rattle.std.specs.Prelude.{ℕ, ◌≡◌, ◌≤◌, Bool, length, Ok, Err, IfOk, Result}
use Rattle.lk_tree.specs.Tree.{Tree}
use Rattle.lk_rulebook.specs.Place.{Place}
use Rattle.lk_questions.specs.Query as plain
use Rattle.lk_questions.specs.Query.{AnswerTo, core, whnf, infer, same}
use Rattle.lk_questions.specs.Erased.{value_of}
use Rattle.lk_store.specs.declared.memory.NoMemory.{NoMemory}
use Rattle.lk_store.specs.Contents.{Contents, tree_at, Extends}
use Rattle.lk_ask.specs.declared.query.Answer.{Answer}
use Rattle.lk_ask.specs.declared.query.Query.{Query}
use Rattle.lk_ask.specs.Questions.{value_at, query_of, IsKnownQuery, IsKnownAnswer}
use Rattle.lk_ask.specs.Looks.{Sight}
use Rattle.lk_step.specs.Rows.{IsAnswered}

-- it is answered, at no more than this cost
abbrev pub IsAnsweredWithin : Place → plain.Query → ℕ → Type 0
IsAnsweredWithin w q most = (v : AnswerTo q) × (c : ℕ) × IsAnswered w q v c × (c ≤ most)

-- what is told is its answer
abbrev pub IsTold : Place → Contents → plain.Query → Result (Answer ℕ) NoMemory → Type 0
IsTold w c q (Ok a) =
    (v : AnswerTo q) × (n : ℕ) × IsAnswered w q v n × (value_at (tree_at c) a ≡ value_of q v)
IsTold w c q (Err e) = Unit {0}

-- the answers that are terms, and that of a Same, at some cost
pub record IsCore (w : Place) (e v : Tree) : Type 0 where
  pub cost : ℕ
  pub answered : IsAnswered w (core e) v cost

pub record IsForm (w : Place) (e v : Tree) : Type 0 where
  pub cost : ℕ
  pub answered : IsAnswered w (whnf e) v cost

pub record IsType (w : Place) (e v : Tree) : Type 0 where
  pub cost : ℕ
  pub answered : IsAnswered w (infer e) v cost

pub record IsSame (w : Place) (a b : Tree) (y : Bool) : Type 0 where
  pub cost : ℕ
  pub answered : IsAnswered w (same a b) y cost

-- numbers stand for what they stood for, and of all else no more than the meter is another one
pub record Leaves {S R B : Type 0} (contents : S → Contents) (rest : S → R) (sight : R → Sight B)
    (old new : S) : Type 0 where
  pub keeps : Extends (contents old) (contents new)
  pub library : (sight (rest new)).basis.library ≡ (sight (rest old)).basis.library
  pub place : (sight (rest new)).basis.place ≡ (sight (rest old)).basis.place
  pub beside : (sight (rest new)).basis.beside ≡ (sight (rest old)).basis.beside

-- a question is known, and answered at no more than this
pub record MayAsk {S R B : Type 0} (contents : S → Contents) (rest : S → R) (sight : R → Sight B)
    (s : S) (query : Query ℕ) (enough : ℕ) : Type 0 where
  pub known : IsKnownQuery (length (contents s).trees) query
  pub answered : IsAnsweredWithin (sight (rest s)).basis.place
      (query_of (tree_at (contents s)) query) enough

-- its plain answer was told
pub record Answers {S R B : Type 0} (contents : S → Contents) (rest : S → R) (sight : R → Sight B)
    (old new : S) (query : Query ℕ) (result : Result (Answer ℕ) NoMemory) : Type 0 where
  pub leaves : Leaves contents rest sight old new
  pub known : IfOk result (IsKnownAnswer (length (contents new).trees))
  pub told : IsTold (sight (rest old)).basis.place (contents new)
      (query_of (tree_at (contents old)) query) result
