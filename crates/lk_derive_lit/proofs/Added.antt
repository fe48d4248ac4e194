-- It is stated that two trees are the same, by what they reduce to.
use Rattle.std.proofs.Common.{ℕ, ◌≡◌, ◌+◌, ◌<◌, ◌≤◌, true, List, [], ◌∷◌, length, refl, sym, ◌∙◌, subst, ap, arith}
use Rattle.std.proofs.lemmas.List.Elements.{All-nil, All-cons}
use Rattle.lk_tree.specs.WellFormed.{IsWellFormed}
use Rattle.lk_rulebook.specs.Place.{Place}
use Rattle.lk_rulebook.specs.Claims.{Claim, reduces, equals}
use Rattle.lk_questions.specs.Query.{same}
use Rattle.lk_written.specs.Line.{reduce_rule}
use Rattle.lk_store.specs.Contents.{Contents, tree_at, Extends}
use Rattle.lk_ask.specs.declared.query.Query.TheVariants.{Same}
use Rattle.lk_trace.specs.declared.rules.Rule.TheVariants.{Conversion}
use Rattle.lk_trace.specs.declared.rules.ConversionRule.TheVariants.{Reduce}
use Rattle.lk_trace.specs.Meaning.{IsRuleIn}
use Rattle.lk_premises.specs.Claims.{claims_at, IsClaimIn, AreClaimsIn}
use Rattle.lk_step.specs.declared.step.Row.{Row}
use Rattle.lk_step.specs.declared.step.Step.{Step}
use Rattle.lk_step.specs.Steps.{equality}
use Rattle.lk_step.specs.Makes.{reduction_claim, equality_claim}
use Rattle.lk_step.specs.Meaning.{step_by, step_at, IsStepIn}
use Rattle.lk_step.specs.Rows.{IsAnswered}
use Rattle.lk_step.specs.Parts.{AreThere, IsPartIn}
use Rattle.lk_step.specs.Tells.{IsBasisOf}
use Rattle.lk_step.proofs.EqualitySteps.{equality_steps}
use Rattle.lk_step.proofs.Parts.{first, behind}
use Rattle.lk_step.proofs.PartsIn.{part_asks, part_states}
use Rattle.lk_derive_lit.specs.Added.{reduced_claims, AddsSame}

extends_self : (c : Contents) → Extends c c
extends_self c = record {
  names = record { longer = omega arith; same = λ i h. refl };
  texts = record { longer = omega arith; same = λ i h. refl };
  levels = record { longer = omega arith; same = λ i h. refl };
  lists = record { longer = omega arith; same = λ i h. refl };
  trees = record { longer = omega arith; same = λ i h. refl };
}

pub basis_of_part : (w : Place) (c : Contents) (r : Row) (claim : Claim) (xs : List Claim) (n most : ℕ) → n ≤ most → IsPartIn w c r (claim ∷ xs) n → IsBasisOf w c claim most r
basis_of_part w c r claim xs n most lt p =
    let within : p.part.cost ≤ n = p.part.within in
    record { claims = p.part.claims; spent = p.part.cost; asked = p.part.asked; within = omega (arith, lt, within); steps_hold = p.part.steps_hold; stated = p.part.there.0 }

module _ (c : Contents) (a b l r : ℕ) (la : a < length c.trees) (lb : b < length c.trees) (ll : l < length c.trees) (lr : r < length c.trees) where
  claims_in : AreClaimsIn c (reduced_claims a b l r)
  claims_in =
      All-cons (IsClaimIn c) (reduction_claim a l) (reduction_claim b r ∷ equality_claim l r ∷ []) (record { left_in = la; right_in = ll })
      (All-cons (IsClaimIn c) (reduction_claim b r) (equality_claim l r ∷ []) (record { left_in = lb; right_in = lr })
      (All-cons (IsClaimIn c) (equality_claim l r) [] (record { left_in = ll; right_in = lr }) (All-nil (IsClaimIn c))))

  step_in : (s : Step) → s.rule ≡ Conversion Reduce → s.left ≡ a → s.right ≡ b → s.premises.items ≡ reduced_claims a b l r → IsStepIn c s
  step_in s er el ee ep = record {
    rule_in = subst (IsRuleIn c) (sym er) tt;
    left_in = subst (λ z. z < length c.trees) (sym el) la;
    right_in = subst (λ z. z < length c.trees) (sym ee) lb;
    premises_in = subst (AreClaimsIn c) (sym ep) claims_in;
  }

step_is : (c : Contents) (a b l r : ℕ) (s : Step) → s.rule ≡ Conversion Reduce → s.left ≡ a → s.right ≡ b → s.premises.items ≡ reduced_claims a b l r →
    step_at c s ≡ equality reduce_rule (tree_at c a) (tree_at c b) (reduces (tree_at c a) (tree_at c l) ∷ reduces (tree_at c b) (tree_at c r) ∷ equals (tree_at c l) (tree_at c r) ∷ [])
step_is c a b l r s er el ee ep =
    ap (λ z. step_by c z s) er
    ∙ ap (λ z. equality reduce_rule (tree_at c z) (tree_at c s.right) (claims_at c s.premises.items)) el
    ∙ ap (λ z. equality reduce_rule (tree_at c a) (tree_at c z) (claims_at c s.premises.items)) ee ∙ ap (λ z. equality reduce_rule (tree_at c a) (tree_at c b) (claims_at c z)) ep

-- the row with its question, and before its step
abbrev half : Row → Row → Row
half old new = record { asks = new.asks; steps = old.steps }

pub adds_same : (w : Place) (c : Contents) (old new : Row) (a b l r : ℕ) (xs : List Claim) (n k : ℕ) → a < length c.trees → b < length c.trees → l < length c.trees → r < length c.trees → AddsSame old new a b l r →
    IsPartIn w c old xs n → AreThere xs (reduces (tree_at c a) (tree_at c l) ∷ reduces (tree_at c b) (tree_at c r) ∷ []) → IsWellFormed (tree_at c a) → IsWellFormed (tree_at c b) → IsWellFormed (tree_at c l) → IsWellFormed (tree_at c r) →
    IsAnswered w (same (tree_at c l) (tree_at c r)) true k → (tree_at c a ≡ tree_at c b → tree_at c a ≡ tree_at c l → tree_at c b ≡ tree_at c r) →
    IsPartIn w c new (equals (tree_at c a) (tree_at c b) ∷ equals (tree_at c l) (tree_at c r) ∷ xs) (n + k)
adds_same w c old new a b l r xs n k la lb ll lr adds p there fa fb fl fr answered apart =
    let t = tree_at c in
    let mid : Row = half old new in
    let q : IsPartIn w c mid (equals (t l) (t r) ∷ xs) (n + k) = part_asks w c c (extends_self c) old mid (Same l r) (same (t l) (t r)) true k (ll, lr) refl (fl, fr) answered refl adds.asks_are refl xs n p in
    let s = equality reduce_rule (t a) (t b) (reduces (t a) (t l) ∷ reduces (t b) (t r) ∷ equals (t l) (t r) ∷ []) in
    part_states w c mid new adds.step s (step_in c a b l r la lb ll lr adds.step adds.rule_is adds.left_is adds.right_is adds.premises_are) (step_is c a b l r adds.step adds.rule_is adds.left_is adds.right_is adds.premises_are)
    ((equality_steps w).reduce (t a) (t b) (t l) (t r) fa fb apart) refl adds.steps_are (equals (t l) (t r) ∷ xs) (n + k)
    (behind (equals (t l) (t r)) xs (reduces (t a) (t l)) there.0, (behind (equals (t l) (t r)) xs (reduces (t b) (t r)) there.1.0, (first (equals (t l) (t r)) xs, tt))) q
