-- What any question goes on with, and how questions that wait hang together.
use Rattle.std.specs.Prelude.{◌≡◌, ℕ, Bool, List, [], ◌∷◌, Option, None, Result, IfOk, length}
use Rattle.lk_store.specs.declared.memory.NoMemory.{NoMemory}
use Rattle.lk_store.specs.Contents.{Contents, tree_at, Extends}
use Rattle.lk_tree.specs.Tree.{Tree}
use Rattle.lk_rulebook.specs.Place.{Place}
use Rattle.lk_questions.specs.Program.{Program}
use Rattle.lk_questions.specs.Erased.{Value, a_tree, truth, Steps, asks, erased, seen, go_on, run_steps, out_of}
use Rattle.lk_questions.specs.Core.{core_steps, whnf_steps}
use Rattle.lk_questions.specs.Infer.{infer_steps}
use Rattle.lk_questions.specs.Same.{same_steps}
use Rattle.lk_questions.specs.Table.{steps}
use Rattle.lk_ask.specs.declared.query.Query.{Query}
use Rattle.lk_ask.specs.declared.query.Query.TheVariants.{Core, Whnf, Infer, Same}
use Rattle.lk_ask.specs.declared.next.Next.{Next}
use Rattle.lk_questions.specs.Query as plain
use Rattle.lk_ask.specs.Questions.{query_of, IsKnownQuery}
use Rattle.lk_ask.specs.Looks.{Sight}
use Rattle.lk_ask.specs.Gives.{Gives}
use Rattle.lk_ask.specs.Nexts.{next_steps, IsKnownNext}
use Rattle.lk_ask.specs.Sheets.{sheet_rest}
use Rattle.lk_core.specs.Forms.{core_rest}
use Rattle.lk_iota.specs.Iotas.{iota_term_rest, iota_truth_rest}
use Rattle.lk_proj.specs.Infers.{infer_rest}
use Rattle.lk_proj.specs.Reductions.{core_rest as reduced_rest}
use Rattle.lk_quot.specs.Cores.{quot_term_rest}
use Rattle.lk_type.specs.Types.{type_term_rest, type_truth_rest}
use Rattle.lk_same.specs.Sames.{same_term_rest, same_truth_rest}
use Rattle.lk_engine.specs.declared.answering.Frame.{Frame}
use Rattle.lk_engine.specs.declared.sheet.TermSheet.{TermSheet}
use Rattle.lk_engine.specs.declared.sheet.TermSheet.TheVariants as term
use Rattle.lk_engine.specs.declared.sheet.TruthSheet.{TruthSheet}
use Rattle.lk_engine.specs.declared.sheet.TruthSheet.TheVariants as truths
use Rattle.lk_engine.specs.Sheets.{AnySheet, map_term, map_truth, map_any, IsKnownAny}
use Rattle.lk_engine.specs.Waiting.{WaitsFor}

-- what goes on with a term; last is the last unit that was looked at before
abbrev pub term_rest : Place → Option ℕ → TermSheet Tree → Tree → Steps
term_rest w last (term.Core s) v = core_rest w last s v
term_rest w last (term.Iota s) v = iota_term_rest w last s v
term_rest w last (term.Quotient s) v = quot_term_rest w last s v
term_rest w last (term.Reduced s) v = reduced_rest w last s v
term_rest w last (term.Type s) v = type_term_rest w last s v
term_rest w last (term.Projected s) v = infer_rest w last s v
term_rest w last (term.Same s) v = same_term_rest w last s v

-- what goes on with yes or no
abbrev pub truth_rest : Place → Option ℕ → TruthSheet Tree → Bool → Steps
truth_rest w last (truths.Iota s) equal = iota_truth_rest w last s equal
truth_rest w last (truths.Type s) equal = type_truth_rest w last s equal
truth_rest w last (truths.Same s) equal = same_truth_rest w last s equal

abbrev pub any_rest : Place → Option ℕ → AnySheet Tree → Value → Steps
any_rest w last = sheet_rest (term_rest w last) (truth_rest w last)

-- what a question does next; t is what numbers stand for
abbrev pub next_of : Place → (ℕ → Tree) → Option ℕ → Next ℕ (AnySheet ℕ) → Steps
next_of w t last next = next_steps (λ s. any_rest w None (map_any t s)) t last next

-- what a question does, by its row
abbrev pub query_steps : Place → (ℕ → Tree) → Option ℕ → Query ℕ → Steps
query_steps w t last (Core e) = erased w a_tree last (core_steps (t e))
query_steps w t last (Whnf e) = erased w a_tree last (whnf_steps (t e))
query_steps w t last (Infer e) = erased w a_tree last (infer_steps (t e))
query_steps w t last (Same a b) = erased w truth last (same_steps (t a) (t b))

-- a step does what the program does; t is what numbers stood for
abbrev pub Does : {S R B A : Type 0} → (S → Contents) → (S → R) → (R → Sight B) → S → S
    → Result (Next ℕ (AnySheet ℕ)) NoMemory → (A → Value) → ((ℕ → Tree) → Program A) → Type 0
Does contents rest sight old new result value program =
    Gives IsKnownAny next_of contents rest sight old new result
    (erased (sight (rest old)).basis.place value (sight (rest old)).last
    (program (tree_at (contents old))))

-- a question's first step does what its row says; numbers stood for these trees
abbrev pub Begins : {S R B : Type 0} → (S → Contents) → (S → R) → (R → Sight B) → S → S
    → Result (Next ℕ (AnySheet ℕ)) NoMemory → Query ℕ → Type 0
Begins contents rest sight old new result query =
    Gives IsKnownAny next_of contents rest sight old new result
    (query_steps (sight (rest old)).basis.place (tree_at (contents old)) (sight (rest old)).last
    query)

-- a question's first steps run as its row does, under each budget
pub record Starts {S R B : Type 0} (contents : S → Contents) (rest : S → R) (sight : R → Sight B)
    (old new : S) (result : Result (Next ℕ (AnySheet ℕ)) NoMemory) (query : Query ℕ)
    : Type 0 where
  pub keeps : Extends (contents old) (contents new)
  pub stays : (sight (rest new)).basis ≡ (sight (rest old)).basis
  pub known : IfOk result (IsKnownNext IsKnownAny (length (contents new).trees))
  pub runs : IfOk result (λ next. (budget : ℕ)
      → run_steps (out_of steps (sight (rest old)).basis.place)
      (next_of (sight (rest old)).basis.place (tree_at (contents new)) (sight (rest new)).last next)
      budget
      ≡ run_steps (out_of steps (sight (rest old)).basis.place)
      (query_steps (sight (rest old)).basis.place (tree_at (contents old)) (sight (rest old)).last
      query) budget)

-- it does what the sheet goes on with
abbrev pub Resumes : {S R B : Type 0} → (S → Contents) → (S → R) → (R → Sight B) → S → S
    → Result (Next ℕ (AnySheet ℕ)) NoMemory → AnySheet ℕ → ((ℕ → Tree) → Value) → Type 0
Resumes contents rest sight old new result sheet value =
    Gives IsKnownAny next_of contents rest sight old new result
    (any_rest (sight (rest old)).basis.place (sight (rest old)).last
    (map_any (tree_at (contents old)) sheet) (value (tree_at (contents old))))

-- the same, with the term of this number
abbrev pub ResumesTerm : {S R B : Type 0} → (S → Contents) → (S → R) → (R → Sight B) → S → S
    → Result (Next ℕ (AnySheet ℕ)) NoMemory → TermSheet ℕ → ℕ → Type 0
ResumesTerm contents rest sight old new result sheet e =
    Gives IsKnownAny next_of contents rest sight old new result
    (term_rest (sight (rest old)).basis.place (sight (rest old)).last
    (map_term (tree_at (contents old)) sheet) (tree_at (contents old) e))

-- the same, with yes or no
abbrev pub ResumesTruth : {S R B : Type 0} → (S → Contents) → (S → R) → (R → Sight B) → S → S
    → Result (Next ℕ (AnySheet ℕ)) NoMemory → TruthSheet ℕ → Bool → Type 0
ResumesTruth contents rest sight old new result sheet equal =
    Gives IsKnownAny next_of contents rest sight old new result
    (truth_rest (sight (rest old)).basis.place (sight (rest old)).last
    (map_truth (tree_at (contents old)) sheet) equal)

-- its numbers are below n
pub record IsKnownFrame (n : ℕ) (f : Frame) : Type 0 where
  pub asker : IsKnownQuery n f.asker
  pub sheet : IsKnownAny n f.sheet

-- the first frame's question is q under the budget b, each asks the next one's, for which it waits
-- under every budget, and the last asks `asked` under `left`
abbrev pub Linked : Place → (ℕ → Tree) → plain.Query → ℕ → List Frame → plain.Query → ℕ → Type 0
Linked w t q b [] asked left = (asked ≡ q) × (left ≡ b)
Linked w t q b (f ∷ fs) asked left =
    (query_of t f.asker ≡ q) × (f.budget ≡ b)
    × ((r : plain.Query) × (c : ℕ) ×
    (out_of steps w q b ≡ seen f.last
    (go_on (out_of steps w r c)
    (λ v rest. run_steps (out_of steps w) (any_rest w None (map_any t f.sheet) v) rest))) ×
    WaitsFor (out_of steps w q) (run_steps (out_of steps w)
    (asks f.last r (any_rest w None (map_any t f.sheet)))) ×
    Linked w t r c fs asked left)
