-- What a question comes to whose answer is a term, or yes or no; and a test of levels, by what it answers.
use Rattle.std.specs.Prelude.{ℕ, Bool, Ok, Err, Result, if◌then◌else◌}
use Rattle.lk_tree.specs.Tree.{Level, Tree}
use Rattle.lk_tree.specs.Level.{is_zero_level}
use Rattle.lk_tree.specs.declared.rule.Rule.TheVariants.{ValueType, TheoremNotProp, LevelWidth}
use Rattle.lk_questions.specs.Query.{Query, core, whnf, infer, same}
use Rattle.lk_questions.specs.Program.{Program, done, refuse, asked, ◌>>=◌}
use Rattle.lk_questions.specs.Steps.{given, as_sort, sort_of}
use Rattle.lk_questions.specs.Declarations.{Yes, checked, value_steps}
use Rattle.lk_level_order.specs.declared.compared.LevelError.{LevelError}
use Rattle.lk_level_order.specs.declared.compared.LevelError.TheVariants as error
use Rattle.lk_ask.specs.declared.stop.Stop.{Stop}
use Rattle.lk_ask.specs.declared.stop.Stop.TheVariants.{No, NoMemory}
use Rattle.lk_ask.specs.Asking.{Standing}
use Rattle.lk_declaration.specs.Courses.{ComesTo}

-- a question that answers a term, and one that answers yes or no
abbrev pub AnswersTerm : Query → Type 0
AnswersTerm (same a b) = ⊥
AnswersTerm _ = Unit {0}

abbrev pub AnswersTruth : Query → Type 0
AnswersTruth (same a b) = Unit {0}
AnswersTruth _ = ⊥

-- of a question that answers yes or no nothing is said
abbrev pub ComesToTerm : {B : Type 0} → Standing B → Query → ℕ → (ℕ → Tree) → ℕ → Result ℕ Stop → Type 0
ComesToTerm s (core e) before value left r = ComesTo s (asked (core e)) before value left r
ComesToTerm s (whnf e) before value left r = ComesTo s (asked (whnf e)) before value left r
ComesToTerm s (infer e) before value left r = ComesTo s (asked (infer e)) before value left r
ComesToTerm s (same a b) before value left r = Unit {0}

-- of a question that answers a term nothing is said
abbrev pub ComesToTruth : {B : Type 0} → Standing B → Query → ℕ → ℕ → Result Bool Stop → Type 0
ComesToTruth s (same a b) before left r = ComesTo s (asked (same a b)) before (λ r. r) left r
ComesToTruth s _ before left r = Unit {0}

-- the level of the sort that a type is to be
abbrev pub sort_form : Tree → Program Level
sort_form T = asked (whnf T) >>= λ S. as_sort S

-- the type found for a value is the one that is stated
abbrev pub agreeing_steps : Tree → Tree → Program Yes
agreeing_steps type found = asked (same found type) >>= λ equal. given equal ValueType (done checked)

-- the type's sort alone
abbrev pub axiom_steps : Tree → Program Yes
axiom_steps type = sort_of type >>= λ l. done checked

-- the type's sort, which is to be 0, then the value
abbrev pub theorem_steps : Tree → Tree → Program Yes
theorem_steps type proof = sort_of type >>= λ l. if is_zero_level l then value_steps type proof else refuse TheoremNotProp

-- the type's sort, then the value
abbrev pub typed_steps : Tree → Tree → Program Yes
typed_steps type value = sort_of type >>= λ l. value_steps type value

-- what a test of levels comes to in a check
abbrev pub tested_result : Result Bool LevelError → Result Bool Stop
tested_result (Ok holds) = Ok holds
tested_result (Err error.Width) = Err (No LevelWidth)
tested_result (Err error.NoMemory) = Err NoMemory
