-- Whether a constant of quotient types is as it has to be.
use Rattle.std.proofs.Common.{◌≡◌, ℕ, Option, false, sym, ap, ◌∙◌}
use Rattle.lk_tree.specs.declared.rule.Rule.{Rule}
use Rattle.lk_rulebook.specs.Place.{Place}
use Rattle.lk_rulebook.specs.Units.{Decl}
use Rattle.lk_questions.specs.Program.{Program}
use Rattle.lk_questions.specs.QuotientUnits.{quot_steps}
use Rattle.lk_questions.specs.Settled.{comes, fails, settle}
use Rattle.lk_questions.specs.Tests.{◌>>=◌, found, passes}
use Rattle.lk_written.specs.Premises.{Left, ends}
use Rattle.lk_premises.proofs.Settled.{settled_found, failed_found}
use Rattle.lk_replay.specs.Bodies.{quotient_test}

module _ (w : Place) (js : Left) (d : Decl) (p : Program (Unit {0})) (is : p ≡ quot_steps d.name d.levels d.type) where
  at : found w (quot_steps d.name d.levels d.type) ≡ found w p
  at = ap (found w) (sym is)

  pub quotient_met : (t u : Option ℕ) (v : Unit {0}) → settle w t p ≡ comes u v → passes (quotient_test w js d) ≡ passes (ends js)
  quotient_met t u v h = ap (λ o. passes (o >>= λ x. ends js)) (at ∙ settled_found w p t u v h)

  pub quotient_refused : (t : Option ℕ) (r : Rule) → settle w t p ≡ fails r → passes (quotient_test w js d) ≡ false
  quotient_refused t r h = ap (λ o. passes (o >>= λ x. ends js)) (at ∙ failed_found w p t r h)
