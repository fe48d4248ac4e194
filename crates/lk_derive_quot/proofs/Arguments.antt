-- Arguments behind a tree that takes a step.
use Rattle.std.proofs.Common.{ℕ, ◌≡◌, inl, true, false, List, [], ◌∷◌, length, refl, sym, subst, ap, ◌∙◌, arith}
use Rattle.lk_tree.specs.Tree.{Tree}
use Rattle.lk_tree.specs.Spine.{apply}
use Rattle.lk_tree.specs.WellFormed.{IsWellFormed}
use Rattle.lk_rulebook.specs.Place.{Place}
use Rattle.lk_rulebook.specs.Claims.{reduces}
use Rattle.lk_questions.specs.Steps.{is_same_tree}
use Rattle.lk_claims.proofs.Facts.{same_self}
use Rattle.lk_claims.proofs.Pieces.{same_tree}
use Rattle.lk_written.specs.Line.{head_rule}
use Rattle.lk_store.specs.Contents.{Contents}
use Rattle.lk_step.specs.declared.step.Row.{Row}
use Rattle.lk_step.specs.Steps.{reduction, StepHolds}
use Rattle.lk_step.specs.Rows.{IsThere}
use Rattle.lk_step.specs.Parts.{States}
use Rattle.lk_step.proofs.PartsIn.{part_states_there, apart}
use Rattle.lk_step.proofs.ReductionSteps.{reduction_steps}
use Rattle.lk_derive_quot.specs.Quotients.{AreBefore, StatesBehind}

nothing : (xs : List Tree) → length xs ≡ 0 → xs ≡ []
nothing [] e = refl
nothing (x ∷ xs) e = absurd (omega arith)

-- none is behind: nothing has to be said
pub states_alone : (c : Contents) (r : Row) (front short a b : Tree) (n : ℕ) → n ≡ 0 → StatesBehind c r r front short a b n
states_alone c r front short a b n z = record {
  states = λ w s fa fb.
      let none : s.arguments ≡ [] = nothing s.arguments (s.many ∙ z) in
      let left : a ≡ front = s.left ∙ ap (apply front) none in
      let right : b ≡ short = s.right ∙ ap (apply short) none in
      part_states_there w c r (reduces front short ∷ []) (reduces a b)
      (λ xs h. subst (λ x. IsThere xs (reduces x b)) (sym left) (subst (λ y. IsThere xs (reduces front y)) (sym right) h.0));
}

-- the two are one tree: nothing has to be said
pub states_itself : (c : Contents) (r : Row) (front short a b : Tree) (n : ℕ) → is_same_tree front short ≡ true → StatesBehind c r r front short a b n
states_itself c r front short a b n t = record {
  states = λ w s fa fb.
      let one : a ≡ b = s.left ∙ ap (λ z. apply z s.arguments) (same_tree front short t) ∙ sym s.right in
      part_states_there w c r (reduces front short ∷ []) (reduces a b)
      (λ xs h. inl (subst (λ y. is_same_tree a y ≡ true) one (same_self a)));
}

head_holds : (w : Place) (front short a b : Tree) (n : ℕ) → (n ≡ 0 → ⊥) → is_same_tree front short ≡ false → AreBefore front short a b n → IsWellFormed a → IsWellFormed b → StepHolds w (reduction head_rule a b (reduces front short ∷ []))
head_holds w front short a b n some t s fa fb = go s.arguments s.many s.left s.right
  where
    go : (xs : List Tree) → length xs ≡ n → a ≡ apply front xs → b ≡ apply short xs → StepHolds w (reduction head_rule a b (reduces front short ∷ []))
    go [] many left right = absurd (some (sym many))
    go (x ∷ xs) many left right =
        let fa' : IsWellFormed (apply front (x ∷ xs)) = subst IsWellFormed left fa in
        let fb' : IsWellFormed (apply short (x ∷ xs)) = subst IsWellFormed right fb in
        subst (λ y. StepHolds w (reduction head_rule y b (reduces front short ∷ []))) (sym left)
        (subst (λ y. StepHolds w (reduction head_rule (apply front (x ∷ xs)) y (reduces front short ∷ []))) (sym right)
        ((reduction_steps w).head front short x xs (apart front short t) fa' fb'))

pub states_head : (c : Contents) (old new : Row) (front short a b : Tree) (n : ℕ) → (n ≡ 0 → ⊥) → is_same_tree front short ≡ false →
    ((w : Place) → StepHolds w (reduction head_rule a b (reduces front short ∷ [])) → States w c old new (reduces front short ∷ []) (reduces a b)) → StatesBehind c old new front short a b n
states_head c old new front short a b n some t f = record { states = λ w s fa fb. f w (head_holds w front short a b n some t s fa fb) }
