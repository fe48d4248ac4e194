-- What a call does that runs a program which asks nothing.
use Rattle.std.specs.Prelude.{◌≡◌, ℕ, Option, IfOk, Result, Ok, Err}
use Rattle.lk_tree.specs.declared.rule.Rule.{Rule}
use Rattle.lk_questions.specs.Program.{Program}
use Rattle.lk_questions.specs.Settled.{Settled, comes, fails, settle}
use Rattle.lk_store.specs.declared.memory.NoMemory.{NoMemory}
use Rattle.lk_store.specs.Contents.{Contents, Extends}
use Rattle.lk_ask.specs.Looks.{Sight}

-- what a result says that a program comes to; `is` is what its value stands for
abbrev pub settled_as : {A C : Type 0} → (A → C) → Option ℕ → Result A Rule → Settled C
settled_as is last (Ok v) = comes last (is v)
settled_as is last (Err r) = fails r

-- numbers stand for what they stood for, and of all else no more than the last unit is another one; the program, which asks
-- nothing, comes to what the result says, or is refused by its rule
pub record Settles {S R B A C : Type 0} (contents : S → Contents) (rest : S → R) (sight : R → Sight B)
    (old new : S) (result : Result (Result A Rule) NoMemory) (is : Contents → A → C)
    (program : Contents → Program C) : Type 0 where
  pub keeps : Extends (contents old) (contents new)
  pub stays : (sight (rest new)).basis ≡ (sight (rest old)).basis
  pub comes_to : IfOk result (λ r. settle (sight (rest old)).basis.place (sight (rest old)).last
      (program (contents old)) ≡ settled_as (is (contents new)) (sight (rest new)).last r)
