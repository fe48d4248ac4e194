-- What Core of a projection goes on with, once the term is there that it waits for.
use Rattle.std.specs.Prelude.{ℕ, Option, None, Result}
use Rattle.lk_tree.specs.Tree.{Name, Tree}
use Rattle.lk_tree.specs.Spine.{head, args}
use Rattle.lk_rulebook.specs.Place.{Place}
use Rattle.lk_questions.specs.Program.{Program, ◌>>=◌}
use Rattle.lk_questions.specs.Erased.{a_tree, Steps, gives, with_tree, erased}
use Rattle.lk_questions.specs.Iota.{ctor_app_of, core_field}
use Rattle.lk_questions.specs.Strings.{text_to_ctor}
use Rattle.lk_store.specs.declared.memory.NoMemory.{NoMemory}
use Rattle.lk_store.specs.Contents.{Contents, tree_at}
use Rattle.lk_ask.specs.declared.next.Next.{Next}
use Rattle.lk_ask.specs.Looks.{Sight}
use Rattle.lk_ask.specs.Gives.{Gives}
use Rattle.lk_ask.specs.Nexts.{next_steps}
use Rattle.lk_proj.specs.declared.sheet.CoreSheet.{CoreSheet}
use Rattle.lk_proj.specs.declared.sheet.CoreSheet.TheVariants.{Subject, Passed}
use Rattle.lk_proj.specs.Sheets.{map_core, IsKnownCore}
use Rattle.lk_proj.specs.Nodes.{of_proj}

-- m is the subject of e, whose head is looked up
abbrev pub head_rest : Tree → Name → ℕ → Tree → Program Tree
head_rest e S i m = ctor_app_of (head m) (args m) >>= λ b. core_field e S i b

-- e is a projection, and W its subject in weak head form
abbrev pub subject_rest : Tree → Tree → Program Tree
subject_rest e W = of_proj e λ S i s. text_to_ctor W >>= λ m. head_rest e S i m

-- what a sheet goes on with, once the term is there; last is the last unit looked at before
abbrev pub core_rest : Place → Option ℕ → CoreSheet Tree → Tree → Steps
core_rest w last (Subject e) W = erased w a_tree last (subject_rest e W)
core_rest w last Passed v = gives last (a_tree v)

-- what Core of a projection does next; t is what numbers stand for
abbrev pub core_next : Place → (ℕ → Tree) → Option ℕ → Next ℕ (CoreSheet ℕ) → Steps
core_next w t last next =
    next_steps (λ s. with_tree (core_rest w None (map_core t s))) t last next

-- a step does what the program does; t is what numbers stood for
abbrev pub Reduces : {S R B : Type 0} → (S → Contents) → (S → R) → (R → Sight B) → S → S
    → Result (Next ℕ (CoreSheet ℕ)) NoMemory → ((ℕ → Tree) → Program Tree) → Type 0
Reduces contents rest sight old new result program =
    Gives IsKnownCore core_next contents rest sight old new result
    (erased (sight (rest old)).basis.place a_tree (sight (rest old)).last
    (program (tree_at (contents old))))

-- it does what the sheet goes on with, now that the term is there
abbrev pub Resumes : {S R B : Type 0} → (S → Contents) → (S → R) → (R → Sight B) → S → S
    → Result (Next ℕ (CoreSheet ℕ)) NoMemory → CoreSheet ℕ → ℕ → Type 0
Resumes contents rest sight old new result sheet e =
    Gives IsKnownCore core_next contents rest sight old new result
    (core_rest (sight (rest old)).basis.place (sight (rest old)).last
    (map_core (tree_at (contents old)) sheet) (tree_at (contents old) e))
