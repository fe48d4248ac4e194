-- What two trees by literals go on with, whatever stands behind them.
use Rattle.std.specs.Prelude.{◌≡◌, ◌<◌, ℕ, Bool, false, [], Option, None, Some, Result, length}
use Rattle.lk_tree.specs.Tree.{Tree, const, lit}
use Rattle.lk_tree.specs.Mentions.{same_name}
use Rattle.lk_rulebook.specs.Names.{nat_succ}
use Rattle.lk_rulebook.specs.Place.{Place}
use Rattle.lk_questions.specs.Program.{Program}
use Rattle.lk_questions.specs.Erased.{truth, Steps, erased}
use Rattle.lk_questions.specs.Pairs.{Line as PlainLine, goes_on, ◌or_else◌, ◌or_line◌}
use Rattle.lk_questions.specs.LiteralLines.{NatCtor as PlainCtor, is_zero, is_succ, nat_ctor}
use Rattle.lk_questions.specs.LiteralLines.{lit_first, lit_second}
use Rattle.lk_questions.specs.LiteralLines.{same_first, same_second, step_second, same_numbers}
use Rattle.lk_store.specs.declared.memory.NoMemory.{NoMemory}
use Rattle.lk_store.specs.Contents.{Contents, tree_at}
use Rattle.lk_ask.specs.declared.next.Line.{Line}
use Rattle.lk_ask.specs.declared.next.Line.TheVariants.{Goes}
use Rattle.lk_ask.specs.declared.next.Next.TheVariants.{Ask}
use Rattle.lk_ask.specs.declared.query.Query.TheVariants.{Same}
use Rattle.lk_ask.specs.declared.sheet.Sheet.TheVariants.{Truth}
use Rattle.lk_ask.specs.declared.sheet.Sheet.{Sheet}
use Rattle.lk_ask.specs.Lines.{Rest, line_steps, GivesLine}
use Rattle.lk_ask.specs.Looks.{Sight}
use Rattle.lk_ask.specs.Sheets.{sheet_rest}
use Rattle.lk_lit.specs.Answers.{answer_rest}
use Rattle.lk_lit.specs.declared.answer.AnswerSheet.{AnswerSheet}
use Rattle.lk_lit.specs.declared.answer.AnswerSheet.TheVariants.{Passed}
use Rattle.lk_lit.specs.declared.literals.NatCtor.{NatCtor}
use Rattle.lk_lit.specs.declared.literals.NatCtor.TheVariants.{Zero, Succ}
use Rattle.lk_lit.specs.declared.literals.Side.{Side}
use Rattle.lk_lit.specs.declared.literals.Side.TheVariants as side
use Rattle.lk_lit.specs.declared.sheet.LitSheet.{LitSheet}
use Rattle.lk_lit.specs.declared.sheet.LiteralsSheet.{LiteralsSheet}
use Rattle.lk_lit.specs.declared.sheet.LiteralsSheet.TheVariants.{Left, Right}
use Rattle.lk_lit.specs.Sheets.{map_literals_sheet, IsKnownLiteralsSheet}
use Rattle.lk_lit.specs.Steps.{lit_rest}

-- the number of a Lit
abbrev pub number_in : Tree → Option ℕ
number_in (lit n) = Some n
number_in _ = None

-- the constructor Nat.succ
abbrev pub is_nat_succ : Tree → Bool
is_nat_succ (const c []) = same_name c nat_succ
is_nat_succ _ = false

-- a number on this side, and what may be a constructor of Nat on the other one
abbrev pub number_line : Side → ℕ → Option PlainCtor → PlainLine
number_line side.Left n k = lit_first n k
number_line side.Right n k = lit_second k n

-- two trees by the numbers that they are, where they are some
abbrev pub numbers_line : Option ℕ → Option ℕ → Tree → Tree → PlainLine
numbers_line (Some n) m a b = lit_first n (nat_ctor b)
numbers_line None (Some n) a b = lit_second (nat_ctor a) n
numbers_line None None a b = goes_on

-- the question whether two are the same, whose answer is the whole one
abbrev pub asks_same : ℕ → ℕ → Line ℕ (Sheet (LiteralsSheet ℕ) AnswerSheet)
asks_same a b = Goes (Ask (Same a b) (Truth Passed))

-- the number stands for it, where there is one
abbrev pub IsCtorIf : Contents → Option NatCtor → Option PlainCtor → Type 0
IsCtorIf c None None = Unit {0}
IsCtorIf c (Some Zero) (Some is_zero) = Unit {0}
IsCtorIf c (Some (Succ x)) (Some (is_succ t)) = (x < length c.trees) × (tree_at c x ≡ t)
IsCtorIf c _ _ = ⊥

-- two trees, once the literal step of the second one is taken, and once that of the first one is
abbrev pub right_line : Tree → Tree → Option Tree → PlainLine
right_line a b r = same_second a r or_line same_numbers a b

abbrev pub left_line : Tree → Tree → Option Tree → PlainLine
left_line a b r = same_first r b or_line step_second a b or_line same_numbers a b

-- what goes on with these steps; p stands behind
abbrev pub after_right : Rest → Place → Tree → Tree → Tree → Option ℕ → Option Tree → Steps
after_right p w a b c last r = erased w truth last (right_line a b r or_else p a b)

abbrev pub after_left : Rest → Place → Tree → Tree → Tree → Option ℕ → Option Tree → Steps
after_left p w a b c last r = erased w truth last (left_line a b r or_else p a b)

-- the same of the literal step on this side
abbrev pub after : Side → Rest → Place → Tree → Tree → Tree → Option ℕ → Option Tree → Steps
after side.Left = after_left
after side.Right = after_right

-- what is kept while the literal step on this side waits
abbrev pub sheet_of : Side → ℕ → ℕ → LitSheet ℕ → LiteralsSheet ℕ
sheet_of side.Left a b s = Left a b s
sheet_of side.Right a b s = Right a b s

-- what a sheet goes on with, once the term is there; last is the last unit that was looked at
abbrev pub literals_rest : Rest → Place → Option ℕ → LiteralsSheet Tree → Tree → Steps
literals_rest p w last (Left a b s) v = lit_rest (after_left p w a b) w last s v
literals_rest p w last (Right a b s) v = lit_rest (after_right p w a b) w last s v

-- what two trees by literals do next; t is what numbers stand for
abbrev pub literals_line : Rest → Place → (ℕ → Tree) → Option ℕ
    → Line ℕ (Sheet (LiteralsSheet ℕ) AnswerSheet) → Steps
literals_line p w t last line =
    line_steps p (λ s. sheet_rest (literals_rest p w None) (answer_rest None)
    (map_literals_sheet t s)) w t last line

-- a step does what the program does, whatever comes behind it; t is what numbers stood for
abbrev pub Compares : {S R B : Type 0} → (S → Contents) → (S → R) → (R → Sight B) → S → S
    → Result (Line ℕ (Sheet (LiteralsSheet ℕ) AnswerSheet)) NoMemory
    → (Rest → (ℕ → Tree) → Program Bool) → Type 0
Compares contents rest sight old new result program =
    GivesLine IsKnownLiteralsSheet literals_line contents rest sight old new result
    (λ p. erased (sight (rest old)).basis.place truth (sight (rest old)).last
    (program p (tree_at (contents old))))

-- it does what these steps do, at the place and the last unit that were
abbrev pub Continues : {S R B : Type 0} → (S → Contents) → (S → R) → (R → Sight B) → S → S
    → Result (Line ℕ (Sheet (LiteralsSheet ℕ) AnswerSheet)) NoMemory
    → (Rest → Place → (ℕ → Tree) → Option ℕ → Steps) → Type 0
Continues contents rest sight old new result steps =
    GivesLine IsKnownLiteralsSheet literals_line contents rest sight old new result
    (λ p. steps p (sight (rest old)).basis.place (tree_at (contents old)) (sight (rest old)).last)
