-- What Same goes on with, once the answer is there that it waits for.
use Rattle.std.specs.Prelude.{◌≡◌, ℕ, Bool, false, ◌&&◌, List, Option, None, Some, IfOk, IfSome, Result, length, if◌then◌else◌}
use Rattle.lk_tree.specs.Tree.{Tree, Level, local}
use Rattle.lk_tree.specs.Bind.{opened}
use Rattle.lk_rulebook.specs.Place.{Place}
use Rattle.lk_questions.specs.Query.{core, whnf, infer, same}
use Rattle.lk_questions.specs.Program.{Program, done, ask, asked, ◌>>=◌}
use Rattle.lk_questions.specs.Erased.{Value, truth, Steps, gives, erased}
use Rattle.lk_tree.specs.Level.{is_zero_level}
use Rattle.lk_questions.specs.Steps.{is_same_tree, as_sort}
use Rattle.lk_questions.specs.Pairs.{Line, otherwise, yes_alone, answers_yes, ◌or_else◌, goes_on}
use Rattle.lk_questions.specs.Eta.{by_structure_eta, by_unit_eta}
use Rattle.lk_questions.specs.LiteralLines.{by_literals, by_string}
use Rattle.lk_questions.specs.Same.{by_parts, by_function_eta, same_reduced}
use Rattle.lk_questions.specs.Unfolding.{by_unfolding}
use Rattle.lk_store.specs.declared.memory.NoMemory.{NoMemory}
use Rattle.lk_store.specs.Contents.{Contents, tree_at}
use Rattle.lk_ask.specs.declared.next.Next.{Next}
use Rattle.lk_ask.specs.declared.sheet.Pair.{Pair}
use Rattle.lk_ask.specs.Looks.{Sight}
use Rattle.lk_ask.specs.Gives.{Gives}
use Rattle.lk_ask.specs.Lines.{Rest}
use Rattle.lk_ask.specs.Nexts.{next_steps, IsKnownNext}
use Rattle.lk_ask.specs.Sheets.{sheet_rest}
use Rattle.lk_eta.specs.Etas.{eta_term_rest, eta_truth_rest}
use Rattle.lk_lazy.specs.Lazies.{others_same, lazy_rest}
use Rattle.lk_lit.specs.Literals.{literals_rest}
use Rattle.lk_same.specs.declared.sheet.ProofSheet.{ProofSheet}
use Rattle.lk_same.specs.declared.sheet.ProofSheet.TheVariants.{Left, LeftSort, LeftSortForm, Right}
use Rattle.lk_same.specs.declared.sheet.SameTermSheet.{SameTermSheet}
use Rattle.lk_same.specs.declared.sheet.SameTermSheet.TheVariants as term
use Rattle.lk_same.specs.declared.sheet.SameTruthSheet.{SameTruthSheet}
use Rattle.lk_same.specs.declared.sheet.SameTruthSheet.TheVariants as truths
use Rattle.lk_same.specs.Sheets.{SameSheet, map_same_term, map_same_truth, map_same_sheet}
use Rattle.lk_same.specs.Sheets.{IsKnownSameSheet}

-- behind the last test: they are not the same
abbrev pub no_other : Rest
no_other a b = done false

-- the tests of two trees whose heads take no step, from the last one up: what stands behind each of the tests before it
abbrev pub then_texts : Rest
then_texts a b = by_string a b or_else no_other a b

abbrev pub then_eta : Rest
then_eta a b = by_function_eta a b or_else by_structure_eta a b or_else by_structure_eta b a
    or_else by_unit_eta a b or_else then_texts a b

abbrev pub then_parts : Rest
then_parts a b = by_parts a b or_else then_eta a b

abbrev pub then_unfolding : Rest
then_unfolding a b = by_unfolding a b or_else then_parts a b

abbrev pub then_literals : Rest
then_literals a b = by_literals a b or_else then_unfolding a b

-- two binders, once their domains were compared: the bodies are opened with the Local k of the first domain
abbrev pub bodies_rest : ℕ → Tree → Tree → Tree → Bool → Program Bool
bodies_rest k A b b' equal = if equal then asked (same (opened b (local k A)) (opened b' (local k A))) else done false

-- a and b, once a' and b' are there, their Core
abbrev pub cores_rest : Tree → Tree → Tree → Tree → Program Bool
cores_rest a b a' b' = if is_same_tree a' a && is_same_tree b' b then same_reduced a b else asked (same a' b')

-- two trees part by part, where these pairs are left, once the pair before them was compared
abbrev pub parts_rest : Tree → Tree → List (Pair Tree) → Bool → Program Bool
parts_rest a b ps equal =
    answers_yes (if equal then others_same ps else done false) or_else then_eta a b

-- two projections, once their subjects were compared
abbrev pub subjects_rest : Tree → Tree → Bool → Program Bool
subjects_rest a b equal = otherwise (yes_alone equal) (then_eta a b)

-- a and b, where a : A and A : Sort l: are they proofs of one proposition
abbrev pub by_level : Tree → Tree → Tree → Level → Line
by_level a b A l = if is_zero_level l then (do
  B ← asked (infer b)
  answers_yes (asked (same A B))) else goes_on

-- the same, and what comes behind it
abbrev pub level_rest : Tree → Tree → Tree → Level → Program Bool
level_rest a b A l = by_level a b A l or_else then_literals a b

-- the same, where S is to be the sort
abbrev pub form_rest : Tree → Tree → Tree → Tree → Program Bool
form_rest a b A S = (as_sort S >>= λ l. by_level a b A l) or_else then_literals a b

-- two proofs, once their propositions were compared
abbrev pub types_rest : Tree → Tree → Bool → Program Bool
types_rest a b equal = otherwise (yes_alone equal) (then_literals a b)

-- what the comparison as proofs goes on with, once the term is there
abbrev pub proof_rest : Place → Option ℕ → ProofSheet Tree → Tree → Steps
proof_rest w last (Left a b) A =
    erased w truth last (ask (infer A) (λ K. ask (whnf K) (λ S. form_rest a b A S)))
proof_rest w last (LeftSort a b A) K = erased w truth last (ask (whnf K) (λ S. form_rest a b A S))
proof_rest w last (LeftSortForm a b A) S = erased w truth last (form_rest a b A S)
proof_rest w last (Right a b A) B =
    erased w truth last (ask (same A B) (λ equal. types_rest a b equal))

-- what a sheet goes on with, once the term is there; last is the last unit that was looked at before
abbrev pub same_term_rest : Place → Option ℕ → SameTermSheet Tree → Tree → Steps
same_term_rest w last (term.CoreLeft a b) a' =
    erased w truth last (ask (core b) (λ b'. cores_rest a b a' b'))
same_term_rest w last (term.CoreRight a b a') b' = erased w truth last (cores_rest a b a' b')
same_term_rest w last (term.Proof s) e = proof_rest w last s e
same_term_rest w last (term.Literals s) e = literals_rest then_unfolding w last s e
same_term_rest w last (term.Eta s) e = eta_term_rest then_texts w last s e

-- the same, once yes or no is there
abbrev pub same_truth_rest : Place → Option ℕ → SameTruthSheet Tree → Bool → Steps
same_truth_rest w last truths.Passed equal = gives last (truth equal)
same_truth_rest w last (truths.Domains A b b' k) equal =
    erased w truth last (bodies_rest k A b b' equal)
same_truth_rest w last (truths.Parts a b ps) equal =
    erased w truth last (parts_rest a b ps equal)
same_truth_rest w last (truths.Subjects a b) equal =
    erased w truth last (subjects_rest a b equal)
same_truth_rest w last (truths.Types a b) equal = erased w truth last (types_rest a b equal)
same_truth_rest w last (truths.Lazy s) equal = lazy_rest w last s equal
same_truth_rest w last (truths.Eta s) equal = eta_truth_rest then_texts w last s equal

-- what it waits for, and goes on with
abbrev pub same_rest : Place → Option ℕ → SameSheet Tree → Value → Steps
same_rest w last = sheet_rest (same_term_rest w last) (same_truth_rest w last)

-- what Same does next; t is what numbers stand for
abbrev pub same_next : Place → (ℕ → Tree) → Option ℕ → Next ℕ (SameSheet ℕ) → Steps
same_next w t last next = next_steps (λ s. same_rest w None (map_same_sheet t s)) t last next

-- what a line does next, where p comes behind it: it goes on, or it gives no answer
abbrev pub GoesLine : Place → (ℕ → Tree) → Option ℕ → Line → Program Bool
    → Option (Next ℕ (SameSheet ℕ)) → Type 0
GoesLine w t last line p (Some next) = same_next w t last next ≡ erased w truth last (line or_else p)
GoesLine w t last line p None = erased w truth last p ≡ erased w truth last (line or_else p)

-- what is found of two terms part by part, where eta comes behind
pub record ComparesParts (c : Contents) (a b : ℕ)
    (result : Result (Option (Next ℕ (SameSheet ℕ))) NoMemory) (line : Line) : Type 0 where
  pub known : IfOk result (λ r. IfSome r (IsKnownNext IsKnownSameSheet (length c.trees)))
  pub goes : (w : Place) (last : Option ℕ) → IfOk result
      (GoesLine w (tree_at c) last line (then_eta (tree_at c a) (tree_at c b)))

-- a step of Same does what the program does; t is what numbers stood for
abbrev pub Compares : {S R B : Type 0} → (S → Contents) → (S → R) → (R → Sight B) → S → S
    → Result (Next ℕ (SameSheet ℕ)) NoMemory → ((ℕ → Tree) → Program Bool) → Type 0
Compares contents rest sight old new result program =
    Gives IsKnownSameSheet same_next contents rest sight old new result
    (erased (sight (rest old)).basis.place truth (sight (rest old)).last
    (program (tree_at (contents old))))

-- it does what the sheet goes on with, now that the term is there
abbrev pub ResumesTerm : {S R B : Type 0} → (S → Contents) → (S → R) → (R → Sight B) → S → S
    → Result (Next ℕ (SameSheet ℕ)) NoMemory → SameTermSheet ℕ → ℕ → Type 0
ResumesTerm contents rest sight old new result sheet e =
    Gives IsKnownSameSheet same_next contents rest sight old new result
    (same_term_rest (sight (rest old)).basis.place (sight (rest old)).last
    (map_same_term (tree_at (contents old)) sheet) (tree_at (contents old) e))

-- the same, now that yes or no is there
abbrev pub ResumesTruth : {S R B : Type 0} → (S → Contents) → (S → R) → (R → Sight B) → S → S
    → Result (Next ℕ (SameSheet ℕ)) NoMemory → SameTruthSheet ℕ → Bool → Type 0
ResumesTruth contents rest sight old new result sheet equal =
    Gives IsKnownSameSheet same_next contents rest sight old new result
    (same_truth_rest (sight (rest old)).basis.place (sight (rest old)).last
    (map_same_truth (tree_at (contents old)) sheet) equal)

-- it does what a line of another crate comes to, at the place and the last unit that were: these steps
abbrev pub Continues : {S R B : Type 0} → (S → Contents) → (S → R) → (R → Sight B) → S → S
    → Result (Next ℕ (SameSheet ℕ)) NoMemory → (Place → (ℕ → Tree) → Option ℕ → Steps) → Type 0
Continues contents rest sight old new result line =
    Gives IsKnownSameSheet same_next contents rest sight old new result
    (line (sight (rest old)).basis.place (tree_at (contents old)) (sight (rest old)).last)
