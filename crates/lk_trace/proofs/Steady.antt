-- Lines stand for the same in a larger store.
use Rattle.std.proofs.Common.{◌≡◌, ◌<◌, length, refl, ap, ◌∙◌, arith}
use Rattle.lk_written.specs.Line as written
use Rattle.lk_written.specs.Line.{ty, rd, cv}
use Rattle.lk_store.specs.Contents.{Contents, tree_at, Extends}
use Rattle.lk_trace.specs.declared.rules.TypingRule.{TypingRule}
use Rattle.lk_trace.specs.declared.rules.TypingRule.TheVariants as typing
use Rattle.lk_trace.specs.declared.rules.ConversionRule.{ConversionRule}
use Rattle.lk_trace.specs.declared.rules.ConversionRule.TheVariants as conversion
use Rattle.lk_trace.specs.declared.rules.Rule.{Rule}
use Rattle.lk_trace.specs.declared.rules.Rule.TheVariants.{Typing, Reduction, Conversion}
use Rattle.lk_trace.specs.declared.sections.Line.{Line}
use Rattle.lk_trace.specs.Meaning.{typing_rule_of, reduction_rule_of, conversion_rule_of, line_by, line_of, IsTypingRuleIn, IsConversionRuleIn, IsRuleIn, IsLineIn}

module _ (c d : Contents) (x : Extends c d) where
  typing_same : (r : TypingRule) → IsTypingRuleIn c r → typing_rule_of d r ≡ typing_rule_of c r
  typing_same (typing.Lambda e) h = ap written.lam_rule (x.trees.same e h)
  typing_same (typing.Pi e) h = ap written.pi_rule (x.trees.same e h)
  typing_same typing.Sort h = refl
  typing_same typing.Local h = refl
  typing_same typing.Constant h = refl
  typing_same typing.Apply h = refl
  typing_same typing.Let h = refl
  typing_same typing.NatLiteral h = refl
  typing_same typing.TextLiteral h = refl
  typing_same typing.Project h = refl

  conversion_same : (r : ConversionRule) → IsConversionRuleIn c r → conversion_rule_of d r ≡ conversion_rule_of c r
  conversion_same (conversion.Lambda e) h = ap written.lams_rule (x.trees.same e h)
  conversion_same (conversion.Pi e) h = ap written.pis_rule (x.trees.same e h)
  conversion_same conversion.Reduce h = refl
  conversion_same conversion.Sorts h = refl
  conversion_same conversion.Constants h = refl
  conversion_same conversion.Apply h = refl
  conversion_same conversion.Project h = refl
  conversion_same conversion.Eta h = refl
  conversion_same conversion.StructureLeft h = refl
  conversion_same conversion.StructureRight h = refl
  conversion_same conversion.UnitLike h = refl
  conversion_same conversion.Proof h = refl
  conversion_same conversion.Zero h = refl
  conversion_same conversion.Successor h = refl
  conversion_same conversion.TextLeft h = refl
  conversion_same conversion.TextRight h = refl

  by_same : (r : Rule) (l : Line) → IsRuleIn c r → l.left < length c.trees → l.right < length c.trees → line_by d r l ≡ line_by c r l
  by_same (Typing r) l h a b =
      ap (λ q. ty q (tree_at d l.left) (tree_at d l.right) l.premises.items) (typing_same r h)
      ∙ ap (λ t. ty (typing_rule_of c r) t (tree_at d l.right) l.premises.items) (x.trees.same l.left a)
      ∙ ap (λ t. ty (typing_rule_of c r) (tree_at c l.left) t l.premises.items) (x.trees.same l.right b)
  by_same (Reduction r) l h a b =
      ap (λ t. rd (reduction_rule_of r) t (tree_at d l.right) l.premises.items) (x.trees.same l.left a)
      ∙ ap (λ t. rd (reduction_rule_of r) (tree_at c l.left) t l.premises.items) (x.trees.same l.right b)
  by_same (Conversion r) l h a b =
      ap (λ q. cv q (tree_at d l.left) (tree_at d l.right) l.premises.items) (conversion_same r h)
      ∙ ap (λ t. cv (conversion_rule_of c r) t (tree_at d l.right) l.premises.items) (x.trees.same l.left a)
      ∙ ap (λ t. cv (conversion_rule_of c r) (tree_at c l.left) t l.premises.items) (x.trees.same l.right b)

  pub line_same : (l : Line) → IsLineIn c l → line_of d l ≡ line_of c l
  line_same l h = by_same l.rule l h.rule_in h.left_in h.right_in

  rule_known : (r : Rule) → IsRuleIn c r → IsRuleIn d r
  rule_known (Typing (typing.Lambda e)) h = let longer = x.trees.longer in omega arith
  rule_known (Typing (typing.Pi e)) h = let longer = x.trees.longer in omega arith
  rule_known (Typing _) h = tt
  rule_known (Reduction r) h = tt
  rule_known (Conversion (conversion.Lambda e)) h = let longer = x.trees.longer in omega arith
  rule_known (Conversion (conversion.Pi e)) h = let longer = x.trees.longer in omega arith
  rule_known (Conversion _) h = tt

  pub line_known : (l : Line) → IsLineIn c l → IsLineIn d l
  line_known l h =
      let longer = x.trees.longer in
      let left = h.left_in in
      let right = h.right_in in
      record { rule_in = rule_known l.rule h.rule_in; left_in = omega arith; right_in = omega arith }
