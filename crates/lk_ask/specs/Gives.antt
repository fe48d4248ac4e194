-- What one step of a question gives.
use Rattle.std.specs.Prelude.{◌≡◌, ℕ, Option, IfOk, Result, length}
use Rattle.lk_store.specs.declared.memory.NoMemory.{NoMemory}
use Rattle.lk_tree.specs.Tree.{Tree}
use Rattle.lk_rulebook.specs.Place.{Place}
use Rattle.lk_questions.specs.Erased.{Steps}
use Rattle.lk_store.specs.Contents.{Contents, tree_at, Extends}
use Rattle.lk_ask.specs.declared.next.Next.{Next}
use Rattle.lk_ask.specs.Looks.{Sight}
use Rattle.lk_ask.specs.Nexts.{IsKnownNext}

-- numbers stand for what they stood for, and of all else no more than the last unit is another one; what comes next is known, and it
-- is these steps, at the place that was and over what numbers stand for now
pub record Gives {S R B X : Type 0} (known_sheet : ℕ → X → Type 0) (next_of : Place → (ℕ → Tree) → Option ℕ → Next ℕ X → Steps) (contents : S → Contents) (rest : S → R) (sight : R → Sight B) (old new : S) (result : Result (Next ℕ X) NoMemory) (does : Steps) : Type 0 where
  pub keeps : Extends (contents old) (contents new)
  pub stays : (sight (rest new)).basis ≡ (sight (rest old)).basis
  pub known : IfOk result (IsKnownNext known_sheet (length (contents new).trees))
  pub steps : IfOk result (λ next. next_of (sight (rest old)).basis.place (tree_at (contents new)) (sight (rest new)).last next ≡ does)

-- what comes next in one crate, told as what comes next in a crate above it
pub record Wraps {X Y : Type 0} (known_sheet : ℕ → X → Type 0) (next_in : Place → (ℕ → Tree) → Option ℕ → Next ℕ X → Steps) (known_above : ℕ → Y → Type 0) (next_above : Place → (ℕ → Tree) → Option ℕ → Next ℕ Y → Steps) (next : Next ℕ X) (above : Next ℕ Y) : Type 0 where
  pub known : (n : ℕ) → IsKnownNext known_sheet n next → IsKnownNext known_above n above
  pub steps : (w : Place) (t : ℕ → Tree) (last : Option ℕ) → next_above w t last above ≡ next_in w t last next
