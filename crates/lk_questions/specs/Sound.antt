-- What an answer means in the rule book, and what it takes of a question's program to be sound.
use Rattle.std.specs.Prelude.{◌≡◌, Bool, true, false, Some}
use Rattle.lk_tree.specs.WellFormed.{IsWellFormed, LocalsWithin}
use Rattle.lk_tree.specs.Spine.{IsHeadNormal}
pub use Rattle.lk_tree.specs.WellFormed.{IsStated}
use Rattle.lk_rulebook.specs.Place.{Place, Entry}
pub use Rattle.lk_rulebook.specs.WellStated.{RulesStated, CtorsStated, TypesStated, IsListed, KindStated, WellStated}
use Rattle.lk_rulebook.specs.Lawful.{IsLawfulPlace}
use Rattle.lk_rulebook.specs.Rules.{HasType, Reduces, IsDefEq}
use Rattle.lk_questions.specs.Query.{Query, AnswerTo, core, whnf, infer, same}
use Rattle.lk_questions.specs.Program.{Program, done, refuse, ask, look, Table}

-- questions are asked of closed, well scoped trees
abbrev pub IsAskable : Query → Type 0
IsAskable (core e) = IsWellFormed e
IsAskable (whnf e) = IsWellFormed e
IsAskable (infer e) = IsWellFormed e
IsAskable (same a b) = IsWellFormed a × IsWellFormed b

abbrev pub IfYes : Bool → Type 0 → Type 0
IfYes true P = P
IfYes false P = Unit {0}

-- what the answer of a question says
abbrev pub IsJustified : Place → (q : Query) → AnswerTo q → Type 0
IsJustified w (core e) v = (Reduces w e v × LocalsWithin e v) × IsHeadNormal v
IsJustified w (whnf e) v = Reduces w e v × LocalsWithin e v
IsJustified w (infer e) v = HasType w e v × LocalsWithin e v
IsJustified w (same a b) equal = IfYes equal (IsDefEq w a b)

-- whatever true answers p gets, it asks only what may be asked, and what it is done with has the property
abbrev pub IsSound : {A : Type 0} → Place → Program A → (A → Type 0) → Type 0
IsSound w (done v) P = P v
IsSound w (refuse r) P = Unit {0}
IsSound w (ask q k) P = IsAskable q × ((v : AnswerTo q) → IsJustified w q v → IsSound w (k v) P)
IsSound w (look r c k) P = (e : Entry) → w.means c ≡ Some e → IsSound w (k e) P

-- what w gives is stated so, and its operations on numbers have their laws
pub record IsSoundPlace (w : Place) : Type 0 where
  pub stated : WellStated w
  pub lawful : IsLawfulPlace w

-- each question's program is sound wherever it may be asked, and what it is done with means what the rule book says
abbrev pub IsSoundTable : Table → Type 0
IsSoundTable table = (w : Place) → IsSoundPlace w → (q : Query) → IsAskable q → IsSound w (table q) (IsJustified w q)
