-- Questions' programs that keep to a set of names.
use Rattle.lk_tree.specs.Tree.{Name}
use Rattle.lk_rulebook.specs.Place.{Entry}
use Rattle.lk_questions.specs.Query.{Query, AnswerTo, core, whnf, infer, same}
use Rattle.lk_questions.specs.Program.{Program, done, refuse, ask, look, Table}
use Rattle.lk_closure.proofs.Names.{Over, EntryOver}

abbrev pub QueryOver : (Name → Type 0) → Query → Type 0
QueryOver P (core e) = Over P e
QueryOver P (whnf e) = Over P e
QueryOver P (infer e) = Over P e
QueryOver P (same a b) = Over P a × Over P b

abbrev pub AnswerOver : (Name → Type 0) → (q : Query) → AnswerTo q → Type 0
AnswerOver P (core e) v = Over P v
AnswerOver P (whnf e) v = Over P v
AnswerOver P (infer e) v = Over P v
AnswerOver P (same a b) v = Unit {0}

-- where answers and entries are over P, p asks and looks up what is over P alone, and what it is done with has the property
abbrev pub Within : {A : Type 0} → (Name → Type 0) → Program A → (A → Type 0) → Type 0
Within P (done v) Q = Q v
Within P (refuse r) Q = Unit {0}
Within P (ask q k) Q = QueryOver P q × ((v : AnswerTo q) → AnswerOver P q v → Within P (k v) Q)
Within P (look r c k) Q = P c × ((e : Entry) → EntryOver P e → Within P (k e) Q)

-- each question of trees over P is answered by a program that keeps to P, with a tree over P
abbrev pub KeepsTo : (Name → Type 0) → Table → Type 0
KeepsTo P table = (q : Query) → QueryOver P q → Within P (table q) (AnswerOver P q)
