-- What is written goes on, and what it is to a reader.
use Rattle.std.specs.Prelude.{ℕ, ◌≡◌, ◌<◌, ◌≤◌, ◌^◌, ◌+◌, List, ◌++◌, length, All}
use Rattle.lk_rulebook.specs.Place.{RecRule}
use Rattle.lk_book.specs.Course.{Course}
use Rattle.lk_book.specs.File.{lines_of}
use Rattle.lk_trim.specs.Written.{File}
use Rattle.lk_readback.specs.Within.{defined_count}
use Rattle.lk_readback.specs.Stated.{IsRead}

-- one list goes on as the other
pub record IsFront {X : Type 0} (xs ys : List X) : Type 0 where
  pub more : List X
  pub is : ys ≡ xs ++ more

pub record Grows (f g : File) : Type 0 where
  pub text : IsFront f.text g.text
  pub names : IsFront f.written.names g.written.names
  pub levels : IsFront f.written.levels g.written.levels
  pub trees : IsFront f.written.trees g.written.trees
  pub rules : f.written.rules ≤ g.written.rules

-- the text keeps the limits, with so many lines of members in all
pub record Fits (members : ℕ) (f : File) : Type 0 where
  pub lines : All (λ line. length line ≤ 2 ^ 24) (lines_of f.text)
  pub input : length f.text ≤ 2 ^ 40
  pub items : defined_count f.written + members < 2 ^ 32

-- a reader that is behind f comes behind g, and no line of a member is between
pub record IsReadOn (f g : File) (rules : List RecRule) (c : Course) : Type 0 where
  pub after : Course
  pub read : IsRead g rules after
  pub same_lines : after.state.lines ≡ c.state.lines
  pub same_budgets : after.state.budgets ≡ c.state.budgets

pub record Goes (f g : File) : Type 0 where
  pub grows : Grows f g
  pub on : (rules : List RecRule) (c : Course) → IsRead f rules c
      → Fits (length c.state.lines) g → IsReadOn f g rules c
