-- Parts of a table: its programs, except that they may be refused earlier.
use Rattle.lk_tree.specs.Tree.{Name}
use Rattle.lk_tree.specs.declared.rule.Rule.{Rule}
use Rattle.lk_rulebook.specs.Place.{Entry}
use Rattle.lk_questions.specs.Query.{Query, AnswerTo}
use Rattle.lk_questions.specs.Program.{Program, done, refuse, ask, look, Table}

-- p does what its whole does, except that it may be refused earlier
pub data IsPart {A : Type 0} : Program A → Program A → Type 0 where
  stops : {r : Rule} {whole : Program A} → IsPart (refuse r) whole
  ends : {v : A} → IsPart (done v) (done v)
  asks : {q : Query} {k whole : AnswerTo q → Program A} → ((v : AnswerTo q) → IsPart (k v) (whole v)) → IsPart (ask q k) (ask q whole)
  looks : {r : Rule} {c : Name} {k whole : Entry → Program A} → ((e : Entry) → IsPart (k e) (whole e)) → IsPart (look r c k) (look r c whole)

-- so it is with each question
abbrev pub IsPartOf : Table → Table → Type 0
IsPartOf part table = (q : Query) → IsPart (part q) (table q)
