-- What Infer goes on with, once the answer is there that it waits for.
use Rattle.std.specs.Prelude.{◌≡◌, ℕ, Bool, Option, None, Result, Ok, Err}
use Rattle.lk_tree.specs.Tree.{Tree, Level, imax_level, sort, lam, pi, local}
use Rattle.lk_tree.specs.Bind.{opened, close, bound}
use Rattle.lk_tree.specs.declared.rule.Rule.TheVariants.{NotAFunction, ArgumentType, LetType}
use Rattle.lk_rulebook.specs.Place.{Place}
use Rattle.lk_questions.specs.Query.{whnf, infer, same}
use Rattle.lk_questions.specs.Program.{Program, done, ask, asked, ◌>>=◌}
use Rattle.lk_questions.specs.Erased.{Value, a_tree, Steps, gives, erased}
use Rattle.lk_questions.specs.Steps.{given, as_sort, as_pi, sort_of}
use Rattle.lk_questions.specs.Infer.{infer_steps}
use Rattle.lk_questions.specs.Shapes.{nat_shape, string_shape}
use Rattle.lk_rulebook.specs.Names.{named, nat, string}
use Rattle.lk_store.specs.declared.memory.NoMemory.{NoMemory}
use Rattle.lk_store.specs.Contents.{Contents, tree_at}
use Rattle.lk_ask.specs.declared.next.Next.{Next}
use Rattle.lk_ask.specs.Looks.{Sight}
use Rattle.lk_ask.specs.Gives.{Gives}
use Rattle.lk_ask.specs.Projections.{IsProjection}
use Rattle.lk_ask.specs.Nexts.{next_steps}
use Rattle.lk_ask.specs.Sheets.{sheet_rest}
use Rattle.lk_type.specs.declared.infer.TypeStep.{TypeStep}
use Rattle.lk_type.specs.declared.infer.TypeStep.TheVariants.{Goes, Projection}
use Rattle.lk_type.specs.declared.sheet.TypeTermSheet.{TypeTermSheet}
use Rattle.lk_type.specs.declared.sheet.TypeTermSheet.TheVariants.{Passed, LamDomain, LamDomainSort}
use Rattle.lk_type.specs.declared.sheet.TypeTermSheet.TheVariants.{LamBody, PiDomain, PiDomainSort}
use Rattle.lk_type.specs.declared.sheet.TypeTermSheet.TheVariants.{PiBody, PiBodySort, Function}
use Rattle.lk_type.specs.declared.sheet.TypeTermSheet.TheVariants.{FunctionForm, Argument, LetType}
use Rattle.lk_type.specs.declared.sheet.TypeTermSheet.TheVariants.{LetTypeSort, LetValue}
use Rattle.lk_type.specs.declared.sheet.TypeTermSheet.TheVariants.{TelescopeLocal, TelescopeDomain}
use Rattle.lk_type.specs.declared.sheet.TypeTermSheet.TheVariants.{TelescopeSort, TelescopeBody, PisSort}
use Rattle.lk_type.specs.declared.sheet.TypeTruthSheet.{TypeTruthSheet}
use Rattle.lk_type.specs.declared.sheet.TypeTruthSheet.TheVariants.{ArgumentSame, LetValueSame}
use Rattle.lk_type.specs.Sheets.{TypeSheet, map_type_term, map_type_truth, map_type_sheet}
use Rattle.lk_type.specs.Sheets.{IsKnownTypeSheet}
pub use Rattle.lk_type.specs.Telescopes.{level_in}
use Rattle.lk_type.specs.Telescopes.{telescope_domain, telescope_sorted, telescope_end, pis_sorted}

-- the type of a number, and of a text
abbrev pub number_steps : Program Tree
number_steps = nat_shape >>= λ u. done (named nat)

abbrev pub text_steps : Program Tree
text_steps = string_shape >>= λ u. done (named string)

-- a lambda, once its domain has a sort
abbrev pub lam_rest : Tree → Tree → Program Tree
lam_rest A b = do
  let k = bound (lam A b)
  B ← asked (infer (opened b (local k A)))
  done (pi A (close k B))

-- the same, where S is to be the sort
abbrev pub lam_sorted : Tree → Tree → Tree → Program Tree
lam_sorted A b S = as_sort S >>= λ l. lam_rest A b

-- a Pi whose domain has this sort
abbrev pub pi_rest : Tree → Tree → Level → Program Tree
pi_rest A b u = do
  let k = bound (pi A b)
  v ← sort_of (opened b (local k A))
  done (sort (imax_level u v))

-- the same, where S is to be the sort
abbrev pub pi_sorted : Tree → Tree → Tree → Program Tree
pi_sorted A b S = as_sort S >>= λ u. pi_rest A b u

-- the last of it
abbrev pub pi_end : Level → Tree → Program Tree
pi_end u S = as_sort S >>= λ v. done (sort (imax_level u v))

-- an application to a, once its argument was compared
abbrev pub applied_end : Tree → Tree → Bool → Program Tree
applied_end B a equal = given equal ArgumentType (done (opened B a))

-- the same, once the type of its argument is there
abbrev pub applied_argument : Tree → Tree → Tree → Tree → Program Tree
applied_argument A B a T = ask (same T A) (λ equal. applied_end B a equal)

-- the same, where S is to be a Pi
abbrev pub applied_rest : Tree → Tree → Program Tree
applied_rest a S = as_pi NotAFunction S >>= λ p. ask (infer a) (λ T. applied_argument p.0 p.1 a T)

-- a Let, once the type of its value was compared with what is stated
abbrev pub let_end : Tree → Tree → Bool → Program Tree
let_end v b equal = given equal LetType (asked (infer (opened b v)))

-- the same, once the type of its value is there
abbrev pub let_typed : Tree → Tree → Tree → Tree → Program Tree
let_typed A v b V = ask (same V A) (λ equal. let_end v b equal)

-- the same, where S is to be the sort of what is stated
abbrev pub let_sorted : Tree → Tree → Tree → Tree → Program Tree
let_sorted A v b S = as_sort S >>= λ l. ask (infer v) (λ V. let_typed A v b V)

-- what a sheet goes on with, once the term is there; last is the last unit that was looked at before
abbrev pub type_term_rest : Place → Option ℕ → TypeTermSheet Tree → Tree → Steps
type_term_rest w last Passed v = gives last (a_tree v)
type_term_rest w last (LamDomain A b) T =
    erased w a_tree last (ask (whnf T) (λ S. lam_sorted A b S))
type_term_rest w last (LamDomainSort A b) S = erased w a_tree last (lam_sorted A b S)
type_term_rest w last (LamBody A k) B = gives last (a_tree (pi A (close k B)))
type_term_rest w last (PiDomain A b) T =
    erased w a_tree last (ask (whnf T) (λ S. pi_sorted A b S))
type_term_rest w last (PiDomainSort A b) S = erased w a_tree last (pi_sorted A b S)
type_term_rest w last (PiBody s) T =
    erased w a_tree last (ask (whnf T) (λ S. pi_end (level_in s) S))
type_term_rest w last (PiBodySort s) S = erased w a_tree last (pi_end (level_in s) S)
type_term_rest w last (TelescopeLocal s) A = erased w a_tree last (telescope_domain s A)
type_term_rest w last (TelescopeDomain s) T =
    erased w a_tree last (ask (whnf T) (λ S. telescope_sorted s S))
type_term_rest w last (TelescopeSort s) S = erased w a_tree last (telescope_sorted s S)
type_term_rest w last (TelescopeBody b us) T = erased w a_tree last (telescope_end b us T)
type_term_rest w last (PisSort us s) S = erased w a_tree last (pis_sorted us s S)
type_term_rest w last (Function a) F =
    erased w a_tree last (ask (whnf F) (λ S. applied_rest a S))
type_term_rest w last (FunctionForm a) S = erased w a_tree last (applied_rest a S)
type_term_rest w last (Argument A B a) T = erased w a_tree last (applied_argument A B a T)
type_term_rest w last (LetType A v b) T =
    erased w a_tree last (ask (whnf T) (λ S. let_sorted A v b S))
type_term_rest w last (LetTypeSort A v b) S = erased w a_tree last (let_sorted A v b S)
type_term_rest w last (LetValue A v b) V = erased w a_tree last (let_typed A v b V)

-- the same, once yes or no is there
abbrev pub type_truth_rest : Place → Option ℕ → TypeTruthSheet Tree → Bool → Steps
type_truth_rest w last (ArgumentSame B a) equal = erased w a_tree last (applied_end B a equal)
type_truth_rest w last (LetValueSame v b) equal = erased w a_tree last (let_end v b equal)

-- what it waits for, and goes on with
abbrev pub type_rest : Place → Option ℕ → TypeSheet Tree → Value → Steps
type_rest w last = sheet_rest (type_term_rest w last) (type_truth_rest w last)

-- what Infer does next; t is what numbers stand for
abbrev pub type_next : Place → (ℕ → Tree) → Option ℕ → Next ℕ (TypeSheet ℕ) → Steps
type_next w t last next = next_steps (λ s. type_rest w None (map_type_sheet t s)) t last next

-- a step of Infer does what the program does; t is what numbers stood for
abbrev pub Infers : {S R B : Type 0} → (S → Contents) → (S → R) → (R → Sight B) → S → S
    → Result (Next ℕ (TypeSheet ℕ)) NoMemory → ((ℕ → Tree) → Program Tree) → Type 0
Infers contents rest sight old new result program =
    Gives IsKnownTypeSheet type_next contents rest sight old new result
    (erased (sight (rest old)).basis.place a_tree (sight (rest old)).last
    (program (tree_at (contents old))))

-- the first step of Infer of the term of this number does what its row does; or nothing was done, and it is a projection
abbrev pub Begins : {S R B : Type 0} → (S → Contents) → (S → R) → (R → Sight B) → S → S
    → Result TypeStep NoMemory → ℕ → Type 0
Begins contents rest sight old new (Ok (Goes next)) e =
    Infers contents rest sight old new (Ok next) (λ t. infer_steps (t e))
Begins contents rest sight old new (Ok (Projection subject)) e =
    (new ≡ old) × IsProjection (contents old) e subject
Begins contents rest sight old new (Err error) e =
    Infers contents rest sight old new (Err error) (λ t. infer_steps (t e))

-- it does what the sheet goes on with, now that the term is there
abbrev pub ResumesTerm : {S R B : Type 0} → (S → Contents) → (S → R) → (R → Sight B) → S → S
    → Result (Next ℕ (TypeSheet ℕ)) NoMemory → TypeTermSheet ℕ → ℕ → Type 0
ResumesTerm contents rest sight old new result sheet e =
    Gives IsKnownTypeSheet type_next contents rest sight old new result
    (type_term_rest (sight (rest old)).basis.place (sight (rest old)).last
    (map_type_term (tree_at (contents old)) sheet) (tree_at (contents old) e))

-- the same, now that yes or no is there
abbrev pub ResumesTruth : {S R B : Type 0} → (S → Contents) → (S → R) → (R → Sight B) → S → S
    → Result (Next ℕ (TypeSheet ℕ)) NoMemory → TypeTruthSheet ℕ → Bool → Type 0
ResumesTruth contents rest sight old new result sheet equal =
    Gives IsKnownTypeSheet type_next contents rest sight old new result
    (type_truth_rest (sight (rest old)).basis.place (sight (rest old)).last
    (map_type_truth (tree_at (contents old)) sheet) equal)
