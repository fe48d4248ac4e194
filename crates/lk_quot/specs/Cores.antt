-- What Core of a constant of quotient types goes on with, once the term is there that it waits for.
use Rattle.std.specs.Prelude.{ℕ, Option, None, Result}
use Rattle.lk_tree.specs.Tree.{Tree}
use Rattle.lk_rulebook.specs.Place.{Place}
use Rattle.lk_questions.specs.Program.{Program}
use Rattle.lk_questions.specs.Erased.{Value, a_tree, Steps, gives, with_tree, erased}
use Rattle.lk_store.specs.declared.memory.NoMemory.{NoMemory}
use Rattle.lk_store.specs.Contents.{Contents, tree_at}
use Rattle.lk_ask.specs.declared.next.Next.{Next}
use Rattle.lk_ask.specs.Looks.{Sight}
use Rattle.lk_ask.specs.Gives.{Gives}
use Rattle.lk_ask.specs.Nexts.{next_steps}
use Rattle.lk_quot.specs.declared.sheet.QuotSheet.{QuotSheet}
use Rattle.lk_quot.specs.declared.sheet.QuotSheet.TheVariants.{Passed, Major}
use Rattle.lk_quot.specs.Sheets.{map_quot_sheet, IsKnownQuotSheet}
use Rattle.lk_quot.specs.Redexes.{redex_in, form_rest}

-- what goes on with a term; last is the last unit that was looked at before
abbrev pub quot_term_rest : Place → Option ℕ → QuotSheet Tree → Tree → Steps
quot_term_rest w last Passed v = gives last (a_tree v)
quot_term_rest w last (Major e) m = erased w a_tree last (form_rest e (redex_in e) m)

abbrev pub quot_rest : Place → Option ℕ → QuotSheet Tree → Value → Steps
quot_rest w last s = with_tree (quot_term_rest w last s)

-- what Core of a constant of quotient types does next; t is what numbers stand for
abbrev pub quot_next : Place → (ℕ → Tree) → Option ℕ → Next ℕ (QuotSheet ℕ) → Steps
quot_next w t last next = next_steps (λ s. quot_rest w None (map_quot_sheet t s)) t last next

-- a step of it does what the program does; t is what numbers stood for
abbrev pub Reduces : {S R B : Type 0} → (S → Contents) → (S → R) → (R → Sight B) → S → S
    → Result (Next ℕ (QuotSheet ℕ)) NoMemory → ((ℕ → Tree) → Program Tree) → Type 0
Reduces contents rest sight old new result program =
    Gives IsKnownQuotSheet quot_next contents rest sight old new result
    (erased (sight (rest old)).basis.place a_tree (sight (rest old)).last
    (program (tree_at (contents old))))

-- it does what the sheet goes on with, with the term of this number
abbrev pub ResumesTerm : {S R B : Type 0} → (S → Contents) → (S → R) → (R → Sight B) → S → S
    → Result (Next ℕ (QuotSheet ℕ)) NoMemory → QuotSheet ℕ → ℕ → Type 0
ResumesTerm contents rest sight old new result sheet e =
    Gives IsKnownQuotSheet quot_next contents rest sight old new result
    (quot_term_rest (sight (rest old)).basis.place (sight (rest old)).last
    (map_quot_sheet (tree_at (contents old)) sheet) (tree_at (contents old) e))
