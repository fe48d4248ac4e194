-- Questions and steps by numbers stand for the same while the store grows.
use Rattle.std.proofs.Common.{◌≡◌, ℕ, List, [], ◌∷◌, length, map, refl, ap, ◌∙◌, arith}
use Rattle.std.specs.Prelude.{All}
use Rattle.std.proofs.lemmas.List.Elements.{All-head, All-tail}
use Rattle.lk_questions.specs.Query as plain
use Rattle.lk_written.specs.Line as written
use Rattle.lk_store.specs.Contents.{Contents, tree_at, Extends}
use Rattle.lk_ask.specs.declared.query.Query.{Query}
use Rattle.lk_ask.specs.declared.query.Query.TheVariants.{Core, Whnf, Infer, Same}
use Rattle.lk_ask.specs.Questions.{query_of, IsKnownQuery}
use Rattle.lk_trace.specs.declared.rules.TypingRule.{TypingRule}
use Rattle.lk_trace.specs.declared.rules.TypingRule.TheVariants as typing
use Rattle.lk_trace.specs.declared.rules.ConversionRule.{ConversionRule}
use Rattle.lk_trace.specs.declared.rules.ConversionRule.TheVariants as conversion
use Rattle.lk_trace.specs.declared.rules.Rule.{Rule}
use Rattle.lk_trace.specs.declared.rules.Rule.TheVariants.{Typing, Reduction, Conversion}
use Rattle.lk_trace.specs.Meaning.{typing_rule_of, reduction_rule_of, conversion_rule_of, IsTypingRuleIn, IsConversionRuleIn, IsRuleIn}
use Rattle.lk_premises.specs.Claims.{claims_at}
use Rattle.lk_premises.proofs.Staying.{claims_known, claims_same}
use Rattle.lk_step.specs.declared.step.Step.{Step}
use Rattle.lk_step.specs.Steps as steps
use Rattle.lk_step.specs.Meaning.{step_by, step_at, IsStepIn}

-- two functions that agree at each element
pub map_same : {X Y : Type 0} (f g : X → Y) (P : X → Type 0) → ((x : X) → P x → f x ≡ g x) → (xs : List X) → All P xs → map f xs ≡ map g xs
map_same f g P e [] h = refl
map_same f g P e (x ∷ xs) h = ap (λ y. y ∷ map f xs) (e x (All-head P x xs h)) ∙ ap (λ ys. g x ∷ ys) (map_same f g P e xs (All-tail P x xs h))

module _ (c d : Contents) (x : Extends c d) where
  typing_same : (r : TypingRule) → IsTypingRuleIn c r → typing_rule_of d r ≡ typing_rule_of c r
  typing_same (typing.Lambda e) h = ap written.lam_rule (x.trees.same e h)
  typing_same (typing.Pi e) h = ap written.pi_rule (x.trees.same e h)
  typing_same typing.Sort h = refl
  typing_same typing.Local h = refl
  typing_same typing.Constant h = refl
  typing_same typing.Apply h = refl
  typing_same typing.Let h = refl
  typing_same typing.NatLiteral h = refl
  typing_same typing.TextLiteral h = refl
  typing_same typing.Project h = refl

  conversion_same : (r : ConversionRule) → IsConversionRuleIn c r → conversion_rule_of d r ≡ conversion_rule_of c r
  conversion_same (conversion.Lambda e) h = ap written.lams_rule (x.trees.same e h)
  conversion_same (conversion.Pi e) h = ap written.pis_rule (x.trees.same e h)
  conversion_same conversion.Reduce h = refl
  conversion_same conversion.Sorts h = refl
  conversion_same conversion.Constants h = refl
  conversion_same conversion.Apply h = refl
  conversion_same conversion.Project h = refl
  conversion_same conversion.Eta h = refl
  conversion_same conversion.StructureLeft h = refl
  conversion_same conversion.StructureRight h = refl
  conversion_same conversion.UnitLike h = refl
  conversion_same conversion.Proof h = refl
  conversion_same conversion.Zero h = refl
  conversion_same conversion.Successor h = refl
  conversion_same conversion.TextLeft h = refl
  conversion_same conversion.TextRight h = refl

  rule_known : (r : Rule) → IsRuleIn c r → IsRuleIn d r
  rule_known (Typing (typing.Lambda e)) h = let longer = x.trees.longer in omega arith
  rule_known (Typing (typing.Pi e)) h = let longer = x.trees.longer in omega arith
  rule_known (Typing _) h = tt
  rule_known (Reduction r) h = tt
  rule_known (Conversion (conversion.Lambda e)) h = let longer = x.trees.longer in omega arith
  rule_known (Conversion (conversion.Pi e)) h = let longer = x.trees.longer in omega arith
  rule_known (Conversion _) h = tt

  step_by_same : (r : Rule) (s : Step) → IsRuleIn c r → IsStepIn c s → step_by d r s ≡ step_by c r s
  step_by_same (Typing r) s h i =
      ap (λ q. steps.typing q (tree_at d s.left) (tree_at d s.right) (claims_at d s.premises.items)) (typing_same r h)
      ∙ ap (λ t. steps.typing (typing_rule_of c r) t (tree_at d s.right) (claims_at d s.premises.items)) (x.trees.same s.left i.left_in)
      ∙ ap (λ t. steps.typing (typing_rule_of c r) (tree_at c s.left) t (claims_at d s.premises.items)) (x.trees.same s.right i.right_in)
      ∙ ap (steps.typing (typing_rule_of c r) (tree_at c s.left) (tree_at c s.right)) (claims_same c d x s.premises.items i.premises_in)
  step_by_same (Reduction r) s h i =
      ap (λ t. steps.reduction (reduction_rule_of r) t (tree_at d s.right) (claims_at d s.premises.items)) (x.trees.same s.left i.left_in)
      ∙ ap (λ t. steps.reduction (reduction_rule_of r) (tree_at c s.left) t (claims_at d s.premises.items)) (x.trees.same s.right i.right_in)
      ∙ ap (steps.reduction (reduction_rule_of r) (tree_at c s.left) (tree_at c s.right)) (claims_same c d x s.premises.items i.premises_in)
  step_by_same (Conversion r) s h i =
      ap (λ q. steps.equality q (tree_at d s.left) (tree_at d s.right) (claims_at d s.premises.items)) (conversion_same r h)
      ∙ ap (λ t. steps.equality (conversion_rule_of c r) t (tree_at d s.right) (claims_at d s.premises.items)) (x.trees.same s.left i.left_in)
      ∙ ap (λ t. steps.equality (conversion_rule_of c r) (tree_at c s.left) t (claims_at d s.premises.items)) (x.trees.same s.right i.right_in)
      ∙ ap (steps.equality (conversion_rule_of c r) (tree_at c s.left) (tree_at c s.right)) (claims_same c d x s.premises.items i.premises_in)

  pub step_same : (s : Step) → IsStepIn c s → step_at d s ≡ step_at c s
  step_same s h = step_by_same s.rule s h.rule_in h

  pub step_known : (s : Step) → IsStepIn c s → IsStepIn d s
  step_known s h =
      let longer = x.trees.longer in
      let left = h.left_in in
      let right = h.right_in in
      record { rule_in = rule_known s.rule h.rule_in; left_in = omega arith; right_in = omega arith; premises_in = claims_known c d x s.premises.items h.premises_in }

  pub query_same : (q : Query ℕ) → IsKnownQuery (length c.trees) q → query_of (tree_at d) q ≡ query_of (tree_at c) q
  query_same (Core e) h = ap plain.core (x.trees.same e h)
  query_same (Whnf e) h = ap plain.whnf (x.trees.same e h)
  query_same (Infer e) h = ap plain.infer (x.trees.same e h)
  query_same (Same a b) h = ap (λ t. plain.same t (tree_at d b)) (x.trees.same a h.0) ∙ ap (plain.same (tree_at c a)) (x.trees.same b h.1)

  pub query_known : (q : Query ℕ) → IsKnownQuery (length c.trees) q → IsKnownQuery (length d.trees) q
  query_known (Core e) h = let longer = x.trees.longer in omega arith
  query_known (Whnf e) h = let longer = x.trees.longer in omega arith
  query_known (Infer e) h = let longer = x.trees.longer in omega arith
  query_known (Same a b) h = let longer = x.trees.longer in let a_in = h.0 in let b_in = h.1 in (omega arith, omega arith)
