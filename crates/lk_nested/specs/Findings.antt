-- What a program that asks nothing finds out at a place, where it only looks names up.
use Rattle.std.specs.Prelude.{◌≡◌, Bool, true, false, Option, Some, None, Ok, Err, Result}
use Rattle.lk_tree.specs.declared.rule.Rule.{Rule}
use Rattle.lk_rulebook.specs.Place.{Place, Entry}
use Rattle.lk_questions.specs.Program.{Program, done, refuse, ask, look}
use Rattle.lk_questions.specs.Answer.{refusal}
use Rattle.lk_ask.specs.declared.stop.Stop.{Stop}
use Rattle.lk_ask.specs.declared.stop.Stop.TheVariants.{No, Spent, NoMemory}

-- asking: a question is met
pub data Finding (A : Type 0) : Type 0 where
  found : A → Finding A
  refused : Rule → Finding A
  asking : Finding A

abbrev pub looked : {A : Type 0} → Option Entry → Option Rule → Rule → (Entry → Finding A) → Finding A
looked None flaw r k = refused (refusal r flaw)
looked (Some e) flaw r k = k e

abbrev pub finding : {A : Type 0} → Place → Program A → Finding A
finding w (done v) = found v
finding w (refuse r) = refused r
finding w (ask q f) = asking
finding w (look r c f) = looked (w.means c) (w.flaw c) r (λ e. finding w (f e))

-- the first, and the second where the first found no
abbrev pub then_held : Finding Bool → Finding Bool → Finding Bool
then_held (found true) q = found true
then_held (found false) q = q
then_held (refused r) q = refused r
then_held asking q = asking

-- it is what the result says
abbrev pub FindsNothing : {A : Type 0} → Finding A → Stop → Type 0
FindsNothing p (No r) = p ≡ refused r
FindsNothing p Spent = ⊥
FindsNothing p NoMemory = Unit {0}

abbrev pub Finds : {A X : Type 0} → Finding A → (X → A) → Result X Stop → Type 0
Finds p value (Ok x) = p ≡ found (value x)
Finds p value (Err stop) = FindsNothing p stop
