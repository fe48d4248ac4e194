-- What is said of a program that asks nothing, and comes to no value.
use Rattle.std.specs.Prelude.{◌≡◌, ℕ, Option, Ok, Err, Result}
use Rattle.lk_tree.specs.declared.rule.Rule.{Rule}
use Rattle.lk_questions.specs.Program.{Program}
use Rattle.lk_questions.specs.Settled.{Settled, comes, fails}
use Rattle.lk_store.specs.declared.memory.NoMemory as memory
use Rattle.lk_store.specs.Contents.{Contents}
use Rattle.lk_ask.specs.declared.stop.Stop.{Stop}
use Rattle.lk_ask.specs.declared.stop.Stop.TheVariants.{No, Spent, NoMemory}
use Rattle.lk_ask.specs.Looks.{Sight}
use Rattle.lk_ask.specs.Settles.{Settles}

-- it is met, or refused by the rule that the result says
abbrev pub Meets : {S R B : Type 0} → (S → Contents) → (S → R) → (R → Sight B) → S → S
    → Result (Result (Unit {0}) Rule) memory.NoMemory → Program (Unit {0}) → Type 0
Meets contents rest sight old new result program =
    Settles contents rest sight old new result (λ c u. tt) (λ c. program)

-- what such a program comes to: it is met, or refused by this rule; the budget is never used up
abbrev pub IsMet : Settled (Unit {0}) → Result (Unit {0}) Stop → Type 0
IsMet o (Ok u) = (last : Option ℕ) × (o ≡ comes last tt)
IsMet o (Err (No r)) = o ≡ fails r
IsMet o (Err Spent) = ⊥
IsMet o (Err NoMemory) = Unit {0}
