-- Steps of reduction that unfold, open or look at a constructor: what a step of each rule rests on,
-- and that its line holds wherever that is stated.
use Rattle.std.specs.Prelude.{ℕ, ◌≡◌, ◌≢◌, ◌+◌, true, List, [], ◌∷◌, Some, slice_get}
use Rattle.lk_tree.specs.Tree.{Name, Level, Tree, const, lam, let_in, proj}
use Rattle.lk_tree.specs.Bind.{opened}
use Rattle.lk_tree.specs.Spine.{apply}
use Rattle.lk_tree.specs.WellFormed.{IsWellFormed}
use Rattle.lk_rulebook.specs.Place.{Place}
use Rattle.lk_rulebook.specs.Structures.{CtorApp, ctor_app, RecApp, on_major, HasRule, rule_result}
use Rattle.lk_rulebook.specs.Rules.{HasValue, IsGivenAt, at_levels}
use Rattle.lk_rulebook.specs.Claims.{reduces}
use Rattle.lk_questions.specs.Core.{lambdas, beta as with_opened}
use Rattle.lk_questions.specs.Strings.{text_to_ctor}
use Rattle.lk_questions.specs.Tests.{passes, found, reads}
use Rattle.lk_written.specs.Line.{chain_rule, head_rule, beta_rule, zeta_rule, delta_rule}
use Rattle.lk_written.specs.Line.{field_rule, major_rule, iota_rule}
use Rattle.lk_step.specs.Steps.{reduction, StepHolds}

-- a lambda applied to these, as many lambdas opened as there are arguments for
abbrev pub beta_reduct : Tree → List Tree → Tree
beta_reduct h xs = with_opened (lambdas h) h xs

-- A premise that its line always names is between two trees.
pub record ReductionSteps (w : Place) : Type 0 where
  pub chain : (a b c : Tree) → a ≢ b → b ≢ c → IsWellFormed a → IsWellFormed c →
      StepHolds w (reduction chain_rule a c (reduces a b ∷ reduces b c ∷ []))
  pub head : (f g x : Tree) (xs : List Tree) → f ≢ g → IsWellFormed (apply f (x ∷ xs)) →
      IsWellFormed (apply g (x ∷ xs)) → StepHolds w
      (reduction head_rule (apply f (x ∷ xs)) (apply g (x ∷ xs)) (reduces f g ∷ []))
  pub beta : (A b x : Tree) (xs : List Tree) → IsWellFormed (apply (lam A b) (x ∷ xs)) →
      IsWellFormed (beta_reduct (lam A b) (x ∷ xs)) → StepHolds w
      (reduction beta_rule (apply (lam A b) (x ∷ xs)) (beta_reduct (lam A b) (x ∷ xs)) [])
  pub zeta : (A v b : Tree) (xs : List Tree) → IsWellFormed (apply (let_in A v b) xs) →
      IsWellFormed (apply (opened b v) xs) →
      StepHolds w (reduction zeta_rule (apply (let_in A v b) xs) (apply (opened b v) xs) [])
  pub delta : (c : Name) (ls : List Level) (g : IsGivenAt w c ls) (v : Tree) (xs : List Tree) →
      HasValue g.entry v → IsWellFormed (apply (const c ls) xs) →
      IsWellFormed (apply (at_levels g v) xs) →
      StepHolds w (reduction delta_rule (apply (const c ls) xs) (apply (at_levels g v) xs) [])
  pub field : (c : CtorApp w) (i : ℕ) (e m x : Tree) →
      found w (text_to_ctor m) ≡ Some (ctor_app c) →
      slice_get c.args (c.ctor.parameters + i) ≡ Some x → IsWellFormed e → IsWellFormed x →
      StepHolds w (reduction field_rule (proj c.ind.name i e) x (reduces e m ∷ []))
  pub major : (R : RecApp w) (e m n : Tree) → passes (reads w m n) ≡ true → IsWellFormed e →
      IsWellFormed n →
      StepHolds w (reduction major_rule (on_major R e) (on_major R n) (reduces e m ∷ []))
  pub iota : (R : RecApp w) (c : CtorApp w) (h : HasRule R c) (i : ℕ) →
      slice_get R.recursor.rules i ≡ Some h.rule → IsWellFormed (ctor_app c) →
      IsWellFormed (rule_result R c h) →
      StepHolds w (reduction (iota_rule i) (on_major R (ctor_app c)) (rule_result R c h) [])
