-- Questions that ask Same of several pairs.
use Rattle.std.specs.Prelude.{ℕ, Bool, true, false, ◌&&◌, List, [], ◌∷◌, Option, Some, None, if◌then◌else◌}
use Rattle.lk_tree.specs.Tree.{Tree, local}
use Rattle.lk_tree.specs.Bind.{opened}
use Rattle.lk_questions.specs.Query.{core, same}
use Rattle.lk_questions.specs.Program.{Program, done, asked, ◌>>=◌}
use Rattle.lk_questions.specs.Steps.{is_same_tree}

-- both binders' domains, then the bodies opened with one Local
abbrev pub same_bodies : ℕ → Tree → Tree → Tree → Tree → Program Bool
same_bodies k A b A' b' = do
  equal ← asked (same A A')
  if equal then asked (same (opened b (local k A)) (opened b' (local k A))) else done false

-- by their Core where that is new, else by what comes next
abbrev pub by_core : Tree → Tree → Program Bool → Program Bool
by_core a b next = do
  a' ← asked (core a)
  b' ← asked (core b)
  if is_same_tree a' a && is_same_tree b' b then next else asked (same a' b')

-- pair by pair, up to the first no
abbrev pub same_all : List Tree → List Tree → Program Bool
same_all [] [] = done true
same_all (a ∷ xs) (b ∷ ys) = do
  equal ← asked (same a b)
  if equal then same_all xs ys else done false
same_all [] (b ∷ ys) = done false
same_all (a ∷ xs) [] = done false

-- one of the tests of Same: it answers, or leaves the question to those after it
abbrev pub Line : Type 0
Line = Program (Option Bool)

abbrev pub otherwise : Option Bool → Program Bool → Program Bool
otherwise (Some answer) next = done answer
otherwise None next = next

infixr 15 ◌or_else◌
abbrev pub ◌or_else◌ : Line → Program Bool → Program Bool
◌or_else◌ line next = line >>= λ o. otherwise o next

-- the next test where this one gives no answer
abbrev pub unless : Option Bool → Line → Line
unless (Some answer) next = done (Some answer)
unless None next = next

infixr 16 ◌or_line◌
abbrev pub ◌or_line◌ : Line → Line → Line
◌or_line◌ line next = line >>= λ o. unless o next

-- yes is an answer, no is none
abbrev pub yes_alone : Bool → Option Bool
yes_alone true = Some true
yes_alone false = None

-- the answer of one question
abbrev pub answers : Program Bool → Line
answers p = p >>= λ b. done (Some b)

abbrev pub answers_yes : Program Bool → Line
answers_yes p = p >>= λ b. done (yes_alone b)

abbrev pub goes_on : Line
goes_on = done None
