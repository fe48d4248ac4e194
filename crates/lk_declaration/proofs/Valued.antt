-- What the questions of a value give, told of equal trees.
use Rattle.std.proofs.Common.{◌≡◌, ℕ, Result, subst}
use Rattle.lk_tree.specs.Tree.{Tree}
use Rattle.lk_questions.specs.Declarations.{checked, value_steps}
use Rattle.lk_ask.specs.declared.stop.Stop.{Stop}
use Rattle.lk_ask.specs.Asking.{Standing}
use Rattle.lk_declaration.specs.Courses.{ComesTo}

pub value_moved : {Base : Type 0} (s : Standing Base) (T T' V V' : Tree) (b left : ℕ) (r : Result (Unit {0}) Stop) → T' ≡ T → V' ≡ V
    → ComesTo s (value_steps T' V') b (λ (u : Unit {0}). checked) left r → ComesTo s (value_steps T V) b (λ (u : Unit {0}). checked) left r
value_moved s T T' V V' b left r type value h =
    subst (λ U. ComesTo s (value_steps U V) b (λ (u : Unit {0}). checked) left r) type
    (subst (λ W. ComesTo s (value_steps T' W) b (λ (u : Unit {0}). checked) left r) value h)
