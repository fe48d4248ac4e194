-- What the literal step and the lines of literals keep: over other things, and with known numbers.
use Rattle.std.specs.Prelude.{ℕ, ◌<◌}
use Rattle.lk_ask.specs.declared.sheet.Sheet.{Sheet}
use Rattle.lk_ask.specs.Sheets.{map_sheet, IsKnownSheet}
use Rattle.lk_lit.specs.declared.answer.AnswerSheet.{AnswerSheet}
use Rattle.lk_lit.specs.declared.sheet.LitSheet.{LitSheet}
use Rattle.lk_lit.specs.declared.sheet.LitSheet.TheVariants.{First, Second}
use Rattle.lk_lit.specs.declared.sheet.LiteralsSheet.{LiteralsSheet}
use Rattle.lk_lit.specs.declared.sheet.LiteralsSheet.TheVariants.{Left, Right}
use Rattle.lk_lit.specs.Answers.{map_answer, IsKnownAnswer}

abbrev pub map_lit : {X Y : Type 0} → (X → Y) → LitSheet X → LitSheet Y
map_lit f (First e) = First (f e)
map_lit f (Second e n) = Second (f e) n

-- its numbers are below n
abbrev pub IsKnownLit : ℕ → LitSheet ℕ → Type 0
IsKnownLit n (First e) = e < n
IsKnownLit n (Second e m) = e < n

abbrev pub map_literals : {X Y : Type 0} → (X → Y) → LiteralsSheet X → LiteralsSheet Y
map_literals f (Left a b s) = Left (f a) (f b) (map_lit f s)
map_literals f (Right a b s) = Right (f a) (f b) (map_lit f s)

-- its numbers are below n
abbrev pub IsKnownLiterals : ℕ → LiteralsSheet ℕ → Type 0
IsKnownLiterals n (Left a b s) = (a < n) × (b < n) × IsKnownLit n s
IsKnownLiterals n (Right a b s) = (a < n) × (b < n) × IsKnownLit n s

-- its numbers are below n
abbrev pub IsKnownLiteralsSheet : ℕ → Sheet (LiteralsSheet ℕ) AnswerSheet → Type 0
IsKnownLiteralsSheet = IsKnownSheet IsKnownLiterals IsKnownAnswer

abbrev pub map_literals_sheet : {X Y : Type 0} → (X → Y) → Sheet (LiteralsSheet X) AnswerSheet → Sheet (LiteralsSheet Y) AnswerSheet
map_literals_sheet f = map_sheet (map_literals f) map_answer
