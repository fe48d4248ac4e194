-- What the literal step does next. With its value goes on whoever asked for it.
use Rattle.std.specs.Prelude.{◌≡◌, ◌<◌, ℕ, nat_eq, List, [], ◌∷◌, Option, None, Some, IfOk, IfSome, Result, length, drop, option_map, if◌then◌else◌}
use Rattle.lk_tree.specs.Tree.{Tree, const}
use Rattle.lk_tree.specs.Spine.{head, args}
use Rattle.lk_tree.specs.Operations.{Op, arity}
use Rattle.lk_rulebook.specs.Place.{Place}
use Rattle.lk_questions.specs.Program.{Program, done, ◌>>=◌}
use Rattle.lk_questions.specs.Erased.{Steps, with_tree, erased_then}
use Rattle.lk_questions.specs.Literals.{numeral_of, with_first, numerals, computed}
use Rattle.lk_store.specs.declared.memory.NoMemory.{NoMemory}
use Rattle.lk_store.specs.Contents.{Contents, tree_at, Extends}
use Rattle.lk_ask.specs.Looks.{Sight}
use Rattle.lk_ask.specs.Nexts.{next_steps, IsKnownNext}
use Rattle.lk_lit.specs.declared.step.LitPart.{LitPart}
use Rattle.lk_lit.specs.declared.step.LitPart.TheVariants.{Goes, Comes}
use Rattle.lk_lit.specs.declared.sheet.LitSheet.{LitSheet}
use Rattle.lk_lit.specs.declared.sheet.LitSheet.TheVariants.{First, Second}
use Rattle.lk_lit.specs.Operations.{named_op}
use Rattle.lk_lit.specs.Sheets.{map_lit, IsKnownLit}

-- what goes on with the value of the literal step of a term, where there is one, and the last unit that was looked at
abbrev pub Then : Type 0
Then = Tree → Option ℕ → Option Tree → Steps

-- the operation of these arguments, where they are as many as it takes
abbrev pub applied_step : Option Op → List Tree → Program (Option Tree)
applied_step (Some op) xs = if nat_eq (length xs) (arity op) then (numerals xs >>= λ ns. computed op ns) else done None
applied_step None xs = done None

-- the same, once the number of the first argument is there, where it is a numeral
abbrev pub first_step : Option Op → List Tree → Option ℕ → Program (Option Tree)
first_step (Some op) xs m =
    if nat_eq (length xs) (arity op) then (with_first m (numerals (drop 1 xs)) >>= λ ns. computed op ns)
    else done None
first_step None xs m = done None

-- an operation of two numbers, once that of the second argument is there too
abbrev pub second_step : Option Op → ℕ → Option ℕ → Program (Option Tree)
second_step (Some op) n m = if nat_eq (arity op) 2 then computed op (option_map (λ k. n ∷ k ∷ []) m) else done None
second_step None n m = done None

-- the operation that stands at the head, by its name alone: that the constant is one was found out before
abbrev pub op_at : Tree → Option Op
op_at (const f ls) = named_op f
op_at _ = None

-- the literal step, once the weak head form of an argument is there
abbrev pub program_of : LitSheet Tree → Tree → Program (Option Tree)
program_of (First c) v = first_step (op_at (head c)) (args c) (numeral_of v)
program_of (Second c n) v = second_step (op_at (head c)) n (numeral_of v)

abbrev pub term_of : LitSheet Tree → Tree
term_of (First c) = c
term_of (Second c n) = c

-- what a sheet goes on with, once the term is there; last is the last unit that was looked at before
abbrev pub lit_rest : Then → Place → Option ℕ → LitSheet Tree → Tree → Steps
lit_rest k w last s v = erased_then w (k (term_of s)) last (program_of s v)

-- what the literal step does next; t is what numbers stand for
abbrev pub lit_steps : Then → Place → (ℕ → Tree) → Option ℕ → LitPart → Steps
lit_steps k w t last (Goes next) = next_steps (λ s. with_tree (lit_rest k w None (map_lit t s))) t last next
lit_steps k w t last (Comes c value) = k (t c) last (option_map t value)

-- its numbers are below n
abbrev pub IsKnownPart : ℕ → LitPart → Type 0
IsKnownPart n (Goes next) = IsKnownNext IsKnownLit n next
IsKnownPart n (Comes c value) = (c < n) × IfSome value (λ v. v < n)

-- numbers stand for what they stood for, and of all else no more than the last unit is another one; what comes next is known, and
-- with whatever goes on with the value it is these steps
pub record StepsPart {S R B : Type 0} (contents : S → Contents) (rest : S → R) (sight : R → Sight B)
    (old new : S) (result : Result LitPart NoMemory) (does : Then → Steps) : Type 0 where
  pub keeps : Extends (contents old) (contents new)
  pub stays : (sight (rest new)).basis ≡ (sight (rest old)).basis
  pub known : IfOk result (IsKnownPart (length (contents new).trees))
  pub steps : IfOk result (λ part. (k : Then) → lit_steps k (sight (rest old)).basis.place
      (tree_at (contents new)) (sight (rest new)).last part ≡ does k)

-- a step does what the program does, which is the literal step of the term of this number; t is what numbers stood for
abbrev pub GivesPart : {S R B : Type 0} → (S → Contents) → (S → R) → (R → Sight B) → S → S
    → Result LitPart NoMemory → ℕ → ((ℕ → Tree) → Program (Option Tree)) → Type 0
GivesPart contents rest sight old new result e program =
    let t = tree_at (contents old) in
    StepsPart contents rest sight old new result
    (λ k. erased_then (sight (rest old)).basis.place (k (t e)) (sight (rest old)).last (program t))

-- at once, the same: nothing is looked up and nothing is made
pub record IsPart (c : Contents) (part : LitPart) (e : ℕ) (program : Program (Option Tree)) : Type 0 where
  pub known : IsKnownPart (length c.trees) part
  pub steps : (k : Then) (w : Place) (last : Option ℕ)
      → lit_steps k w (tree_at c) last part ≡ erased_then w (k (tree_at c e)) last program

-- it does what the sheet goes on with, with the term of this number
abbrev pub ResumesPart : {S R B : Type 0} → (S → Contents) → (S → R) → (R → Sight B) → S → S
    → Result LitPart NoMemory → LitSheet ℕ → ℕ → Type 0
ResumesPart contents rest sight old new result sheet e =
    let t = tree_at (contents old) in
    StepsPart contents rest sight old new result
    (λ k. lit_rest k (sight (rest old)).basis.place (sight (rest old)).last (map_lit t sheet) (t e))
