-- A step of each rule of reduction that unfolds, opens or looks at a constructor holds.
use Rattle.std.proofs.Common.{ℕ, ◌≡◌, ◌≢◌, ◌+◌, true, ◌&&◌, nat_eq, length, List, [], ◌∷◌, Some, subst, sym, ap, ◌∙◌}
use Rattle.std.specs.Prelude.{slice_get}
use Rattle.lk_tree.specs.Tree.{Name, Level, Tree, const, app, lam, let_in, proj}
use Rattle.lk_tree.specs.Bind.{opened}
use Rattle.lk_tree.specs.Spine.{apply, head, args}
use Rattle.lk_tree.specs.WellFormed.{IsWellFormed}
use Rattle.lk_tree.proofs.Scans.{and_true}
use Rattle.lk_rulebook.specs.Place.{Place}
use Rattle.lk_rulebook.specs.Structures.{CtorApp, ctor_app, RecApp, on_major, HasRule, rule_result}
use Rattle.lk_rulebook.specs.Rules.{HasValue, IsGivenAt, at_levels}
use Rattle.lk_rulebook.specs.Claims.{Claim, reduces}
use Rattle.lk_questions.specs.Steps.{is_same_tree, value_of}
use Rattle.lk_questions.specs.Core.{lambdas, beta}
use Rattle.lk_questions.specs.Strings.{text_to_ctor}
use Rattle.lk_questions.specs.Tests.{◌>>=◌, test, passes, found, reads}
use Rattle.lk_claims.proofs.Facts.{same_self}
use Rattle.lk_written.specs.Line.{chain_rule, head_rule, beta_rule, zeta_rule, delta_rule, field_rule, major_rule, iota_rule}
use Rattle.lk_written.specs.Premises.{Left, as_const, reduction, reduced, arguments_over}
use Rattle.lk_written.specs.Typing.{comes_to}
use Rattle.lk_written.specs.Reducing.{is_applied_lam, opened_let, major_of, red_field, red_iota}
use Rattle.lk_written_sound.proofs.Writings.{are_equal, go_on, go_test, with_reduct}
use Rattle.lk_written_sound.proofs.EqualRules.{value_there}
use Rattle.lk_written_sound.proofs.MajorRules.{const_head, const_args, major_there, passed_some, iota_passes, field_passes}
use Rattle.lk_step.specs.Steps as steps
use Rattle.lk_step.specs.Steps.{AreNamed, StepHolds}
use Rattle.lk_step.specs.Reducing.{beta_reduct, ReductionSteps}
use Rattle.lk_step.proofs.Naming.{Named, reduced_gives, reduction_states, go_gives, go_states, comes_named, ends_named, step_reduces}
use Rattle.lk_step.proofs.Spines.{lam_head, lam_args, let_head, let_args, arguments_there}

chain_step : (w : Place) (a b c : Tree) → a ≢ b → b ≢ c → IsWellFormed a → IsWellFormed c → StepHolds w (steps.reduction chain_rule a c (reduces a b ∷ reduces b c ∷ []))
chain_step w a b c two two' fa fc =
    step_reduces w chain_rule a c (reduces a b ∷ reduces b c ∷ []) fa fc (λ ps js h.
    go_states (reduction ps js) a b _ (reduction_states two h) (λ j₁ h₁.
    go_states (reduction ps j₁) b c _ (reduction_states two' h₁) (λ j₂ h₂.
    go_test (is_same_tree a a && is_same_tree b b) _ (and_true (is_same_tree a a) (is_same_tree b b) (same_self a) (same_self b)) (comes_named c h₂))))

head_step : (w : Place) (f g x : Tree) (xs : List Tree) → f ≢ g → IsWellFormed (apply f (x ∷ xs)) → IsWellFormed (apply g (x ∷ xs)) → StepHolds w (steps.reduction head_rule (apply f (x ∷ xs)) (apply g (x ∷ xs)) (reduces f g ∷ []))
head_step w f g x xs two fa fb =
    let b : Tree = apply g (x ∷ xs) in
    step_reduces w head_rule (apply f (x ∷ xs)) b (reduces f g ∷ []) fa fb (λ ps js h.
    go_states (reduction ps js) f g _ (reduction_states two h) (λ j₁ h₁.
    go_on (arguments_over f (apply f (x ∷ xs)) []) (x ∷ xs) _ (arguments_there f x xs) (comes_named b h₁)))

-- h is a lambda, which is applied
beta_passes : (ps : List Claim) (js : Left) (A b x : Tree) (xs : List Tree) (h : Tree) (ys : List Tree) → h ≡ lam A b → ys ≡ x ∷ xs → Named ps [] js →
    passes (test (is_applied_lam h ys) >>= λ u. comes_to (beta_reduct (lam A b) (x ∷ xs)) (beta (lambdas h) h ys) js) ≡ true
beta_passes ps js A b x xs h ys e i n = rw (e, i) (comes_named (beta_reduct (lam A b) (x ∷ xs)) n)

beta_step : (w : Place) (A b x : Tree) (xs : List Tree) → IsWellFormed (apply (lam A b) (x ∷ xs)) → IsWellFormed (beta_reduct (lam A b) (x ∷ xs)) →
    StepHolds w (steps.reduction beta_rule (apply (lam A b) (x ∷ xs)) (beta_reduct (lam A b) (x ∷ xs)) [])
beta_step w A b x xs fa fb =
    let a : Tree = apply (lam A b) (x ∷ xs) in
    step_reduces w beta_rule a (beta_reduct (lam A b) (x ∷ xs)) [] fa fb (λ ps js h.
    beta_passes ps js A b x xs (head a) (args a) (lam_head A b (x ∷ xs)) (lam_args A b (x ∷ xs)) h)

-- h is a let
zeta_passes : (ps : List Claim) (js : Left) (A v b : Tree) (xs : List Tree) (h : Tree) (ys : List Tree) → h ≡ let_in A v b → ys ≡ xs → Named ps [] js →
    passes (opened_let h >>= λ o. comes_to (apply (opened b v) xs) (apply o ys) js) ≡ true
zeta_passes ps js A v b xs h ys e i n = rw (e, i) (comes_named (apply (opened b v) xs) n)

zeta_step : (w : Place) (A v b : Tree) (xs : List Tree) → IsWellFormed (apply (let_in A v b) xs) → IsWellFormed (apply (opened b v) xs) → StepHolds w (steps.reduction zeta_rule (apply (let_in A v b) xs) (apply (opened b v) xs) [])
zeta_step w A v b xs fa fb =
    let a : Tree = apply (let_in A v b) xs in
    step_reduces w zeta_rule a (apply (opened b v) xs) [] fa fb (λ ps js h.
    zeta_passes ps js A v b xs (head a) (args a) (let_head A v b xs) (let_args A v b xs) h)

delta_step : (w : Place) (c : Name) (ls : List Level) (g : IsGivenAt w c ls) (v : Tree) (xs : List Tree) → HasValue g.entry v → IsWellFormed (apply (const c ls) xs) → IsWellFormed (apply (at_levels g v) xs) →
    StepHolds w (steps.reduction delta_rule (apply (const c ls) xs) (apply (at_levels g v) xs) [])
delta_step w c ls g v xs hv fa fb =
    let a : Tree = apply (const c ls) xs in
    let u : Tree = at_levels g v in
    step_reduces w delta_rule a (apply u xs) [] fa fb (λ ps js h.
    go_on (as_const (head a)) (c, ls) _ (ap as_const (const_head c ls xs))
    (go_on (w.means c) g.entry _ g.given
    (go_on (value_of g.entry.kind) v _ (value_there g.entry v hv)
    (go_test (nat_eq (length ls) (length g.entry.levels)) _ (are_equal (length ls) (length g.entry.levels) g.levels_are)
    (subst (λ ys. passes (comes_to (apply u xs) (apply u ys) js) ≡ true) (sym (const_args c ls xs)) (comes_named (apply u xs) h))))))

-- the one premise, as `field_passes` has it
field_named : (w : Place) (ps : List Claim) (js : Left) (c : CtorApp w) (i : ℕ) (s m x : Tree) → found w (text_to_ctor m) ≡ Some (ctor_app c) → slice_get c.args (c.ctor.parameters + i) ≡ Some x → Named ps (reduces s m ∷ []) js →
    passes (red_field w ps js (proj c.ind.name i s) x) ≡ true
field_named w ps js c i s m x t at h =
    let n : AreNamed ps (reduces s m ∷ []) js = h.are in
    let last : n.1 ≡ [] = n.4 in
    let all : js ≡ with_reduct s m n.0 [] = n.2 ∙ ap (λ (z : Left). with_reduct s m n.0 z) last in
    subst (λ z. passes (red_field w ps z (proj c.ind.name i s) x) ≡ true) (sym all)
    (field_passes w ps n.0 c i s m x (ctor_app c) n.3 t (const_head c.name c.levels c.args) (const_args c.name c.levels c.args) at)

field_step : (w : Place) (c : CtorApp w) (i : ℕ) (s m x : Tree) → found w (text_to_ctor m) ≡ Some (ctor_app c) → slice_get c.args (c.ctor.parameters + i) ≡ Some x → IsWellFormed s → IsWellFormed x →
    StepHolds w (steps.reduction field_rule (proj c.ind.name i s) x (reduces s m ∷ []))
field_step w c i s m x t at fs fx =
    step_reduces w field_rule (proj c.ind.name i s) x (reduces s m ∷ []) fs fx (λ ps js h.
    field_named w ps js c i s m x t at h)

-- the recursor at all its arguments before the major premise
abbrev front_of : {w : Place} → RecApp w → Tree
front_of R = apply (const R.name R.levels) R.front

major_step : (w : Place) (R : RecApp w) (e m n : Tree) → passes (reads w m n) ≡ true → IsWellFormed e → IsWellFormed n → StepHolds w (steps.reduction major_rule (on_major R e) (on_major R n) (reduces e m ∷ []))
major_step w R e m n t fe fn =
    let F : Tree = front_of R in
    step_reduces w major_rule (app F e) (app F n) (reduces e m ∷ []) (R.fine, fe) (R.fine, fn) (λ ps js h.
    go_on (major_of w (head F) (length (args F))) (R.name, R.levels, R.entry, R.recursor) _ (major_there w R.name R.levels R.front R.entry R.recursor R.given R.kind R.front_is)
    (go_test (is_same_tree F F) _ (same_self F)
    (go_gives (reduced ps js e) m _ (reduced_gives h (λ z. tt)) (λ j₁ h₁.
    go_on (reads w m n) tt _ (passed_some (reads w m n) t) (ends_named h₁)))))

iota_step : (w : Place) (R : RecApp w) (c : CtorApp w) (h : HasRule R c) (i : ℕ) → slice_get R.recursor.rules i ≡ Some h.rule → IsWellFormed (ctor_app c) → IsWellFormed (rule_result R c h) →
    StepHolds w (steps.reduction (iota_rule i) (on_major R (ctor_app c)) (rule_result R c h) [])
iota_step w R c h i at fc fr =
    let a : Tree = on_major R (ctor_app c) in
    let b : Tree = rule_result R c h in
    step_reduces w (iota_rule i) a b [] (R.fine, fc) fr (λ ps js n.
    let e : js ≡ [] = n.are in
    subst (λ z. passes (red_iota w i z a b) ≡ true) (sym e)
    (iota_passes w R c h i at (front_of R) (ctor_app c) (const_head R.name R.levels R.front) (const_args R.name R.levels R.front) (const_head c.name c.levels c.args) (const_args c.name c.levels c.args)))

pub reduction_steps : (w : Place) → ReductionSteps w
reduction_steps w = record {
  chain = λ a b c two two' fa fc. chain_step w a b c two two' fa fc;
  head = λ f g x xs two fa fb. head_step w f g x xs two fa fb;
  beta = λ A b x xs fa fb. beta_step w A b x xs fa fb;
  zeta = λ A v b xs fa fb. zeta_step w A v b xs fa fb;
  delta = λ c ls g v xs hv fa fb. delta_step w c ls g v xs hv fa fb;
  field = λ c i e m x t at fe fx. field_step w c i e m x t at fe fx;
  major = λ R e m n t fe fn. major_step w R e m n t fe fn;
  iota = λ R c h i at fc fr. iota_step w R c h i at fc fr;
}
