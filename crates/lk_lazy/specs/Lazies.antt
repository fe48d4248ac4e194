-- What unfolding goes on with, once the answer is there that it waits for.
use Rattle.std.specs.Prelude.{ℕ, ◌≡◌, Bool, false, nat_eq, List, length, if◌then◌else◌}
use Rattle.std.specs.Prelude.{Option, Some, None, IfOk, IfSome, Result}
use Rattle.lk_tree.specs.Tree.{Tree}
use Rattle.lk_tree.specs.Spine.{head, args}
use Rattle.lk_rulebook.specs.Place.{Place}
use Rattle.lk_questions.specs.Program.{Program, done}
use Rattle.lk_questions.specs.Erased.{truth, Steps, gives, with_truth, erased}
use Rattle.lk_questions.specs.Pairs.{same_all, Line, answers_yes, ◌or_else◌}
use Rattle.lk_questions.specs.Unfolding.{Unfolding as PlainUnfolding, is_less, unfold_first, unfold_second, unfold_both, same_by_arguments}
use Rattle.lk_store.specs.declared.memory.NoMemory.{NoMemory}
use Rattle.lk_store.specs.Contents.{Contents, tree_at, Extends}
use Rattle.lk_ask.specs.declared.next.Next.{Next}
use Rattle.lk_ask.specs.declared.sheet.Pair.{Pair}
use Rattle.lk_ask.specs.Looks.{Sight}
use Rattle.lk_ask.specs.Gives.{Gives}
use Rattle.lk_ask.specs.Nexts.{next_steps, IsKnownNext}
use Rattle.lk_lazy.specs.declared.sheet.LazySheet.{LazySheet}
use Rattle.lk_lazy.specs.declared.sheet.LazySheet.TheVariants.{Passed, Arguments}
use Rattle.lk_lazy.specs.Heads.{unfolding_at}
use Rattle.lk_lazy.specs.Sheets.{map_lazy, IsKnownLazy}
use Rattle.lk_ask.specs.Lines.{lefts, rights}

-- whether they are the same, by unfolding both: not where one of them does not unfold
abbrev pub both_by : Tree → Tree → Option PlainUnfolding → Option PlainUnfolding → Program Bool
both_by a b (Some u) (Some v) = unfold_both a b u v
both_by a b (Some u) None = done false
both_by a b None v = done false

-- the same, by what their heads mean at the place
abbrev pub unfold_again : Place → Tree → Tree → Program Bool
unfold_again w a b = both_by a b (unfolding_at w (head a)) (unfolding_at w (head b))

-- the pairs of a stack, from the top down
abbrev pub others_same : List (Pair Tree) → Program Bool
others_same ps = same_all (lefts ps) (rights ps)

-- a and b, once a pair of their arguments was compared
abbrev pub arguments_rest : Place → Tree → Tree → List (Pair Tree) → Bool → Program Bool
arguments_rest w a b ps equal = answers_yes (if equal then others_same ps else done false) or_else unfold_again w a b

-- the arguments, where there are as many, else both unfold
abbrev pub arguments_or_both : Tree → Tree → PlainUnfolding → PlainUnfolding → Program Bool
arguments_or_both a b u v = answers_yes (if nat_eq (length (args a)) (length (args b)) then same_all (args a) (args b) else done false) or_else unfold_both a b u v

-- heads and arguments, else both unfold
abbrev pub same_or_both : Tree → Tree → PlainUnfolding → PlainUnfolding → Program Bool
same_or_both a b u v = answers_yes (same_by_arguments a b u v) or_else unfold_both a b u v

-- the greater rank unfolds
abbrev pub ranked : Tree → Tree → PlainUnfolding → PlainUnfolding → Program Bool
ranked a b u v = if is_less u.rank v.rank then unfold_second a b v else (if is_less v.rank u.rank then unfold_first a b u else same_or_both a b u v)

-- what a sheet goes on with, once yes or no is there; last is the last unit that was looked at before
abbrev pub lazy_rest : Place → Option ℕ → LazySheet Tree → Bool → Steps
lazy_rest w last Passed equal = gives last (truth equal)
lazy_rest w last (Arguments a b ps) equal =
    erased w truth last (arguments_rest w a b ps equal)

-- what unfolding does next; t is what numbers stand for
abbrev pub lazy_next : Place → (ℕ → Tree) → Option ℕ → Next ℕ (LazySheet ℕ) → Steps
lazy_next w t last next =
    next_steps (λ s. with_truth (lazy_rest w None (map_lazy t s))) t last next

-- what a line does next; where it gives no answer, what comes behind it goes on
abbrev pub GoesLine : Place → (ℕ → Tree) → Option ℕ → Option ℕ → Line → Option (Next ℕ (LazySheet ℕ)) → Type 0
GoesLine w t before last line (Some next) = (p : Program Bool) → lazy_next w t last next ≡ erased w truth before (line or_else p)
GoesLine w t before last line None = (p : Program Bool) → erased w truth last p ≡ erased w truth before (line or_else p)

-- a step of unfolding does what the program does; t is what numbers stood for
abbrev pub Unfolds : {S R B : Type 0} → (S → Contents) → (S → R) → (R → Sight B) → S → S
    → Result (Next ℕ (LazySheet ℕ)) NoMemory → ((ℕ → Tree) → Program Bool) → Type 0
Unfolds contents rest sight old new result program =
    Gives IsKnownLazy lazy_next contents rest sight old new result
    (erased (sight (rest old)).basis.place truth (sight (rest old)).last
    (program (tree_at (contents old))))

-- it does what the sheet goes on with, now that yes or no is there
abbrev pub Resumes : {S R B : Type 0} → (S → Contents) → (S → R) → (R → Sight B) → S → S
    → Result (Next ℕ (LazySheet ℕ)) NoMemory → LazySheet ℕ → Bool → Type 0
Resumes contents rest sight old new result sheet equal =
    Gives IsKnownLazy lazy_next contents rest sight old new result
    (lazy_rest (sight (rest old)).basis.place (sight (rest old)).last
    (map_lazy (tree_at (contents old)) sheet) equal)

-- what Gives says, of a line: where it gives no answer, what comes behind it goes on
pub record GivesLine {S R B : Type 0} (contents : S → Contents) (rest : S → R) (sight : R → Sight B)
    (old new : S) (result : Result (Option (Next ℕ (LazySheet ℕ))) NoMemory) (line : Line)
    : Type 0 where
  pub keeps : Extends (contents old) (contents new)
  pub stays : (sight (rest new)).basis ≡ (sight (rest old)).basis
  pub known : IfOk result (λ r. IfSome r (IsKnownNext IsKnownLazy (length (contents new).trees)))
  pub goes : IfOk result (GoesLine (sight (rest old)).basis.place (tree_at (contents new))
      (sight (rest old)).last (sight (rest new)).last line)
