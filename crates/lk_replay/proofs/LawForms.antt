-- One law more.
use Rattle.std.proofs.Common.{◌≡◌, ℕ, true, List, ◌∷◌, Option, Some, None, refl, sym, ap, ◌∙◌}
use Rattle.lk_tree.specs.Tree.{Tree}
use Rattle.lk_tree.specs.Operations.{Op}
use Rattle.lk_rulebook.specs.Place.{Place}
use Rattle.lk_rulebook.specs.Claims.{Claim}
use Rattle.lk_rulebook.specs.NumberLaws.{Law, laws_of, stated_by}
use Rattle.lk_questions.specs.Shapes.{nat_shape}
use Rattle.lk_questions.specs.NumberLaws.{def_given, held_given}
use Rattle.lk_questions.specs.Tests.{◌>>=◌, found, passes}
use Rattle.lk_written.specs.Premises.{Left, equal}
use Rattle.lk_written.specs.Section.{laws_read}
use Rattle.lk_premises.proofs.Binding.{bind_bind}
use Rattle.lk_replay.specs.Laws.{law_read, stated_test, counted_test, op_test}

module _ (w : Place) (ps : List Claim) (law : Law) (laws : List Law) (js : Left) where
  law_by : laws_read w ps js (law ∷ laws) ≡ (law_read w ps js law >>= λ r. laws_read w ps r laws)
  law_by =
      bind_bind (found w (held_given law.holds)) (λ u. equal ps js law.left law.right) (λ r. laws_read w ps r laws)
      (λ u. equal ps js law.left law.right >>= λ r. laws_read w ps r laws) (λ u. refl)

  -- it holds
  pub law_on : (r : Left) → law_read w ps js law ≡ Some r → laws_read w ps js (law ∷ laws) ≡ laws_read w ps r laws
  law_on r h = law_by ∙ ap (λ o. o >>= λ q. laws_read w ps q laws) h

  -- it does not
  pub law_stops : law_read w ps js law ≡ None → laws_read w ps js (law ∷ laws) ≡ None
  law_stops h = law_by ∙ ap (λ o. o >>= λ q. laws_read w ps q laws) h

-- a test that passes is passed
pub met_on : {B : Type 0} (o : Option (Unit {0})) (k : Unit {0} → Option B) → passes o ≡ true → (o >>= k) ≡ k tt
met_on (Some v) k h = refl
met_on None k h = absurd cc

module _ (w : Place) (ps qs : List Claim) (js : Left) (same : qs ≡ ps) where
  -- the name that a law holds is given
  pub read_on : (law : Law) (a b : Tree) → a ≡ law.left → b ≡ law.right
      → passes (found w (held_given law.holds)) ≡ true → equal qs js a b ≡ law_read w ps js law
  read_on law a b left right met =
      ap (λ z. equal z js a b) same ∙ ap (λ t. equal ps js t b) left ∙ ap (equal ps js law.left) right
      ∙ sym (met_on (found w (held_given law.holds)) (λ u. equal ps js law.left law.right) met)

  -- the operation by which the laws are stated is given
  pub stated_on : (v : Place) (op : Op) (value : Tree) (laws : List Law) → v ≡ w → laws ≡ laws_of op value
      → passes (found w (def_given (stated_by op))) ≡ true
      → laws_read v qs js laws ≡ stated_test w ps js op value
  stated_on v op value laws place are met =
      ap (λ x. laws_read x qs js laws) place ∙ ap (λ x. laws_read w x js laws) same ∙ ap (laws_read w ps js) are
      ∙ sym (met_on (found w (def_given (stated_by op))) (λ y. laws_read w ps js (laws_of op value)) met)

  -- Nat has its shape
  pub operation_on : (v : Place) (op : Op) (n : ℕ) (x value : Tree) → v ≡ w → x ≡ value
      → passes (found w nat_shape) ≡ true → counted_test v qs js op n x ≡ op_test w ps js op n value
  operation_on v op n x value place is met =
      ap (λ z. counted_test z qs js op n x) place ∙ ap (λ z. counted_test w z js op n x) same
      ∙ ap (counted_test w ps js op n) is
      ∙ sym (met_on (found w nat_shape) (λ u. counted_test w ps js op n value) met)
