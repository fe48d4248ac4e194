-- What a line of Same does next. Behind it stands a program of the two that are compared.
use Rattle.std.specs.Prelude.{◌≡◌, ◌<◌, ℕ, Bool, List, Option, IfOk, Result, length, map, reverse}
use Rattle.lk_tree.specs.Tree.{Tree}
use Rattle.lk_rulebook.specs.Place.{Place}
use Rattle.lk_questions.specs.Program.{Program}
use Rattle.lk_questions.specs.Erased.{Value, truth, Steps, erased}
use Rattle.lk_store.specs.declared.memory.NoMemory.{NoMemory}
use Rattle.lk_store.specs.Contents.{Contents, tree_at, Extends}
use Rattle.lk_ask.specs.declared.next.Line.{Line}
use Rattle.lk_ask.specs.declared.next.Line.TheVariants.{Goes, Behind}
use Rattle.lk_ask.specs.declared.sheet.Pair.{Pair}
use Rattle.lk_ask.specs.Looks.{Sight}
use Rattle.lk_ask.specs.Nexts.{next_steps, IsKnownNext}

-- what is asked of two trees that a line gives no answer to
abbrev pub Rest : Type 0
Rest = Tree → Tree → Program Bool

-- t is what numbers stand for, last the last unit that was looked at, p what comes behind the line, and rest what is kept goes on
-- with
abbrev pub line_steps : {S : Type 0} → Rest → (S → Value → Steps) → Place → (ℕ → Tree) → Option ℕ → Line ℕ S → Steps
line_steps p rest w t last (Goes next) = next_steps rest t last next
line_steps p rest w t last (Behind a b) = erased w truth last (p (t a) (t b))

-- its numbers are below n
abbrev pub IsKnownLine : {S : Type 0} → (ℕ → S → Type 0) → ℕ → Line ℕ S → Type 0
IsKnownLine known n (Goes next) = IsKnownNext known n next
IsKnownLine known n (Behind a b) = (a < n) × (b < n)

-- one step of a line: numbers stand for what they stood for, and of all else no more than the last unit is another one; what comes
-- next is known, and with whatever stands behind the line it is these steps
pub record GivesLine {S R B X : Type 0} (known_sheet : ℕ → X → Type 0)
    (line_of : Rest → Place → (ℕ → Tree) → Option ℕ → Line ℕ X → Steps) (contents : S → Contents)
    (rest : S → R) (sight : R → Sight B) (old new : S) (result : Result (Line ℕ X) NoMemory)
    (does : Rest → Steps) : Type 0 where
  pub keeps : Extends (contents old) (contents new)
  pub stays : (sight (rest new)).basis ≡ (sight (rest old)).basis
  pub known : IfOk result (IsKnownLine known_sheet (length (contents new).trees))
  pub steps : IfOk result (λ next. (p : Rest) → line_of p (sight (rest old)).basis.place
      (tree_at (contents new)) (sight (rest new)).last next ≡ does p)

-- the left ones and the right ones of a stack of pairs, from the top down
abbrev pub lefts : List (Pair Tree) → List Tree
lefts ps = map (λ (p : Pair Tree). p.left) (reverse ps)

abbrev pub rights : List (Pair Tree) → List Tree
rights ps = map (λ (p : Pair Tree). p.right) (reverse ps)
