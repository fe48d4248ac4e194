-- What Core and Whnf go on with, once the term is there that they wait for.
use Rattle.std.specs.Prelude.{◌≡◌, ◌<◌, ℕ, List, Option, Some, None, Result, Ok, Err, length, if◌then◌else◌}
use Rattle.lk_tree.specs.Tree.{Name, Level, Tree, const, proj}
use Rattle.lk_tree.specs.Spine.{apply, head, args}
use Rattle.lk_rulebook.specs.Place.{Place, Entry}
use Rattle.lk_questions.specs.Query.{core}
use Rattle.lk_questions.specs.Program.{Program, done, asked}
use Rattle.lk_questions.specs.Erased.{a_tree, Steps, gives, with_tree, erased}
use Rattle.lk_questions.specs.Steps.{is_same_tree, value_of}
use Rattle.lk_questions.specs.Core.{core_applied, unfolded, stepped, whnf_headed}
use Rattle.lk_store.specs.declared.memory.NoMemory.{NoMemory}
use Rattle.lk_store.specs.Contents.{Contents, name_at, list_at, tree_at}
use Rattle.lk_ask.specs.declared.next.Next.{Next}
use Rattle.lk_ask.specs.Looks.{Sight}
use Rattle.lk_ask.specs.Gives.{Gives}
use Rattle.lk_ask.specs.Projections.{IsProjection}
use Rattle.lk_ask.specs.Nexts.{next_steps}
use Rattle.lk_lit.specs.Steps.{lit_rest}
use Rattle.lk_core.specs.declared.core_form.CoreStep.{CoreStep}
use Rattle.lk_core.specs.declared.core_form.CoreStep.TheVariants.{Goes, Constant, Projection}
use Rattle.lk_core.specs.declared.sheet.CoreSheet.{CoreSheet}
use Rattle.lk_core.specs.declared.sheet.CoreSheet.TheVariants.{Passed, Head, WhnfCore, Literal}
use Rattle.lk_core.specs.Sheets.{map_core, IsKnownCore}

-- Core of the application e, once h is there, the Core of its head
abbrev pub headed_rest : Tree → Tree → Program Tree
headed_rest e h = if is_same_tree h (head e) then done e else asked (core (apply h (args e)))

-- the constant f ls, which means this, at the head of c is unfolded by its value, where it has one
abbrev pub unfolded_by : Tree → Name → List Level → Option Entry → Program Tree
unfolded_by c f ls (Some g) = unfolded g (const f ls) c (value_of g.kind)
unfolded_by c f ls None = done c

-- the head of c is unfolded, where it has a value
abbrev pub unfolded_at : Place → Tree → Tree → Program Tree
unfolded_at w c (const f ls) = unfolded_by c f ls (w.means f)
unfolded_at w c _ = done c

-- Whnf of c behind the literal step
abbrev pub after_literal : Place → Tree → Option ℕ → Option Tree → Steps
after_literal w c last r = erased w a_tree last (stepped r (unfolded_at w c (head c)))

-- what goes on with a term; last is the last unit that was looked at before
abbrev pub core_rest : Place → Option ℕ → CoreSheet Tree → Tree → Steps
core_rest w last Passed v = gives last (a_tree v)
core_rest w last (Head e) h = erased w a_tree last (headed_rest e h)
core_rest w last WhnfCore c = erased w a_tree last (whnf_headed c (head c))
core_rest w last (Literal s) v = lit_rest (after_literal w) w last s v

-- what Core or Whnf does next; t is what numbers stand for
abbrev pub core_next : Place → (ℕ → Tree) → Option ℕ → Next ℕ (CoreSheet ℕ) → Steps
core_next w t last next = next_steps (λ s. with_tree (core_rest w None (map_core t s))) t last next

-- a step of Core or Whnf does what the program does; t is what numbers stood for
abbrev pub Reduces : {S R B : Type 0} → (S → Contents) → (S → R) → (R → Sight B) → S → S
    → Result (Next ℕ (CoreSheet ℕ)) NoMemory → ((ℕ → Tree) → Program Tree) → Type 0
Reduces contents rest sight old new result program =
    let before = sight (rest old) in
    Gives IsKnownCore core_next contents rest sight old new result
    (erased before.basis.place a_tree before.last (program (tree_at (contents old))))

-- it does what the sheet goes on with, with the term of this number
abbrev pub Resumes : {S R B : Type 0} → (S → Contents) → (S → R) → (R → Sight B) → S → S
    → Result (Next ℕ (CoreSheet ℕ)) NoMemory → CoreSheet ℕ → ℕ → Type 0
Resumes contents rest sight old new result sheet e =
    let before = sight (rest old) in
    let t = tree_at (contents old) in
    Gives IsKnownCore core_next contents rest sight old new result
    (core_rest before.basis.place before.last (map_core t sheet) (t e))

-- the program is that of the term of this number, whose head is the constant of this name and these levels, applied
pub record IsApplied (c : Contents) (name levels e : ℕ) (program : Program Tree) : Type 0 where
  pub name_in : name < length c.names
  pub levels_in : levels < length c.lists
  pub head_is : const (name_at c name) (list_at c levels) ≡ head (tree_at c e)
  pub program_is : program ≡ core_applied (tree_at c e) (const (name_at c name) (list_at c levels)) (args (tree_at c e))

-- the first step of Core of the term of this number does what the program does; or nothing was done, and a constant is applied,
-- or it is a projection
abbrev pub Begins : {S R B : Type 0} → (S → Contents) → (S → R) → (R → Sight B) → S → S
    → Result CoreStep NoMemory → ℕ → Program Tree → Type 0
Begins contents rest sight old new (Ok (Goes next)) e program =
    Reduces contents rest sight old new (Ok next) (λ t. program)
Begins contents rest sight old new (Ok (Constant name levels)) e program =
    (new ≡ old) × IsApplied (contents old) name levels e program
Begins contents rest sight old new (Ok (Projection subject)) e program =
    (new ≡ old) × IsProjection (contents old) e subject
Begins contents rest sight old new (Err error) e program =
    Reduces contents rest sight old new (Err error) (λ t. program)

-- it does what the literal step comes to, at the place and the last unit that were: these steps
abbrev pub Continues : {S R B : Type 0} → (S → Contents) → (S → R) → (R → Sight B) → S → S
    → Result (Next ℕ (CoreSheet ℕ)) NoMemory → (Place → (ℕ → Tree) → Option ℕ → Steps) → Type 0
Continues contents rest sight old new result part =
    let before = sight (rest old) in
    Gives IsKnownCore core_next contents rest sight old new result
    (part before.basis.place (tree_at (contents old)) before.last)
