-- Places that give the same contents for a closed set of names answer alike.
use Rattle.std.proofs.Common.{ℕ, ◌≡◌, take, Some, None, Option, refl}
use Rattle.std.specs.Prelude.{option_and_then}
use Rattle.lk_tree.specs.Tree.{Name}
use Rattle.lk_tree.specs.declared.rule.Rule.{Rule}
use Rattle.lk_rulebook.specs.Place.{Place, Entry}
use Rattle.lk_rulebook.specs.Units.{Decl, Library, Members, Found, given_by, first_of_two, at_partial, flawless, first_giving, place_of}
use Rattle.lk_questions.specs.Query.{Query}
use Rattle.lk_questions.specs.Program.{Program, done, refuse, ask, look}
use Rattle.lk_questions.specs.Answer.{outcome_of, plain_answer}
use Rattle.lk_questions.specs.Program.{Table}
use Rattle.lk_questions.specs.Declarations.{unit_steps}
use Rattle.lk_questions.proofs.Renamed.{Renaming, Reads, Alike, SameContents, run_alike, answer_alike}
use Rattle.lk_closure.proofs.Names.{Over, IsClosed, HasBuiltins}
use Rattle.lk_closure.proofs.Within.{QueryOver, AnswerOver, Within, KeepsTo}
use Rattle.lk_closure.proofs.Over.{SameFound, IsSeenAlike}
use Rattle.lk_closure.proofs.Pieces.{Any}
use Rattle.lk_closure.proofs.Rows.{BodyOver, within_unit_steps}

abbrev pub reading : (Name → Type 0) → Renaming
reading P = record { may_ask = QueryOver P; may_get = AnswerOver P; may_read = P }

pub reads_within : {A : Type 0} (P : Name → Type 0) (w : Place) → IsClosed P w → (p : Program A) (Q : A → Type 0) → Within P p Q → Reads (reading P) w p Q
reads_within P w cl (done v) Q h = h
reads_within P w cl (refuse r) Q h = tt
reads_within P w cl (ask q k) Q h = (h.0, λ v a. reads_within P w cl (k v) Q (h.1 v a))
reads_within P w cl (look r c k) Q h = (h.0, λ e m. reads_within P w cl (k e) Q (h.1 e (cl c e h.0 m)))

-- one question
pub answers_alike : (P : Name → Type 0) (table : Table) → KeepsTo P table → HasBuiltins P → (w w' : Place) → IsClosed P w → SameContents (reading P) w w' →
    (q : Query) (b : ℕ) → QueryOver P q → Alike (AnswerOver P q) (plain_answer table w q b) (plain_answer table w' q b)
answers_alike P table st u w w' cl same q b h =
    answer_alike table (reading P) w w' same (λ x o. reads_within P w cl (table x) (AnswerOver P x) (st x o)) b q b h

-- a program that asks questions
pub runs_alike : {A : Type 0} (P : Name → Type 0) (table : Table) → KeepsTo P table → HasBuiltins P → (w w' : Place) → IsClosed P w → SameContents (reading P) w w' →
    (p : Program A) (Q : A → Type 0) (b : ℕ) → Within P p Q → Alike Q (outcome_of w (plain_answer table w) b p) (outcome_of w' (plain_answer table w') b p)
runs_alike P table st u w w' cl same p Q b h =
    run_alike (reading P) w w' same (plain_answer table w) (plain_answer table w') (answers_alike P table st u w w' cl same) p Q b (reads_within P w cl p Q h)

-- a declaration
pub declarations_alike : (P : Name → Type 0) (table : Table) → KeepsTo P table → HasBuiltins P → (w w' : Place) → IsClosed P w → SameContents (reading P) w w' →
    (d : Decl) (b : ℕ) → Over P d.type → BodyOver P d.body → Alike Any (outcome_of w (plain_answer table w) b (unit_steps d)) (outcome_of w' (plain_answer table w') b (unit_steps d))
declarations_alike P table st u w w' cl same d b ot ob = runs_alike P table st u w w' cl same (unit_steps d) Any b (within_unit_steps P u d ot ob)

entry_where : Option Rule → Entry → Option Entry
entry_where o e = elim o as (λ x. Option Entry) [ None ↦ Some e | Some r ↦ None ]

same_contents : (o o' : Option Found) → SameFound o o' → (option_and_then flawless o ≡ option_and_then flawless o') × (option_and_then (λ f. f.flaw) o ≡ option_and_then (λ f. f.flaw) o')
unfolding entry_where
same_contents None None h = (refl, refl)
same_contents (Some f) (Some g) h = (
  (let x : entry_where f.flaw f.entry ≡ entry_where g.flaw g.entry = rw (h.0, h.1) refl in x),
  h.1,
)
same_contents None (Some g) h = absurd h
same_contents (Some f) None h = absurd h

same_with_partial : (n m : ℕ) (x : Option Entry) (o o' : Option Found) → SameFound o o' → SameFound (first_of_two (at_partial n x) o) (first_of_two (at_partial m x) o')
same_with_partial n m None o o' h = h
same_with_partial n m (Some e) o o' h = (refl, refl)

-- with the same names partial
pub places_alike : (P : Name → Type 0) (us vs : Library) (n m : ℕ) (partial : Members) → IsSeenAlike P us n vs m → SameContents (reading P) (place_of us n partial) (place_of vs m partial)
places_alike P us vs n m partial h c p =
    same_contents (first_of_two (at_partial n (given_by partial c)) (first_giving 0 (take n us) c)) (first_of_two (at_partial m (given_by partial c)) (first_giving 0 (take m vs) c))
    (same_with_partial n m (given_by partial c) (first_giving 0 (take n us) c) (first_giving 0 (take m vs) c) (h c p))
