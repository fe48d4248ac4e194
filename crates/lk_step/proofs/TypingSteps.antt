-- A step of each rule of typing holds.
use Rattle.std.proofs.Common.{ℕ, ◌≡◌, ◌<◌, ◌+◌, Bool, true, ◌&&◌, nat_eq, nat_lt, length, List, [], ◌∷◌, Some, refl, subst, sym, ap, ◌∙◌}
use Rattle.lk_tree.specs.Tree.{Name, Level, succ_level, imax_level, Tree, sort, const, lam, pi, let_in, proj, lit, str, local}
use Rattle.lk_tree.specs.Bind.{opened, Fresh, has_var}
use Rattle.lk_tree.specs.Level.{is_zero_level}
use Rattle.lk_tree.specs.Spine.{apply, head, args}
use Rattle.lk_tree.specs.Mentions.{same_name}
use Rattle.lk_tree.specs.WellFormed.{IsWellFormed}
use Rattle.lk_tree.proofs.Scans.{and_true}
use Rattle.lk_rulebook.specs.Place.{Place}
use Rattle.lk_rulebook.specs.Names.{named, nat, string}
use Rattle.lk_rulebook.specs.Structures.{Projectable, projectable_type, ctor_type}
use Rattle.lk_rulebook.specs.Rules.{IsGivenAt, at_levels}
use Rattle.lk_rulebook.specs.Claims.{Claim, types, reduces, equals}
use Rattle.lk_questions.specs.Steps.{is_same_tree}
use Rattle.lk_questions.specs.Shapes.{nat_shape, string_shape}
use Rattle.lk_questions.specs.Tests.{passes, found}
use Rattle.lk_claims.proofs.Facts.{same_self, some_on}
use Rattle.lk_written.specs.Line.{sort_rule, local_rule, const_rule, app_rule, let_rule, lit_rule, str_rule, proj_rule, lam_rule, pi_rule}
use Rattle.lk_written.specs.Premises.{Left, as_const, fresh_local, typing, typed, reduced, equal, to_pi, sorted, arguments_over}
use Rattle.lk_written.specs.Typing.{applied_type, past, prop_if, field_of, the_type, the_one, type_proj}
use Rattle.lk_written_sound.proofs.Writings.{are_equal, go_on, go_test, some_test, fresh_there}
use Rattle.lk_written_sound.proofs.EqualRules.{same_self_name}
use Rattle.lk_written_sound.proofs.MajorRules.{const_head, const_args}
use Rattle.lk_written_sound.proofs.ProjRule.{is_less}
use Rattle.lk_step.specs.Steps as steps
use Rattle.lk_step.specs.Steps.{StepHolds}
use Rattle.lk_step.specs.Shaped.{AllShaped}
use Rattle.lk_step.specs.Typing.{ArgumentPremises, no_argument, argument, ParameterPremises, no_parameter, parameter, PropPremises, not_due, due, FieldPremises, this_field, field_before, TypingSteps}
use Rattle.lk_step.proofs.Naming.{Named, Gives, Leaves, typed_gives, reduced_gives, to_pi_gives, sorted_gives, equal_leaves, typing_states, gives_on, leaves_on, go_gives, go_leaves, go_states, comes_named, step_types, sort_other, pi_other}
use Rattle.lk_step.proofs.Spines.{arguments_there}

const_step : (w : Place) (c : Name) (ls : List Level) (g : IsGivenAt w c ls) → IsWellFormed (at_levels g g.entry.type) → StepHolds w (steps.typing const_rule (const c ls) (at_levels g g.entry.type) [])
const_step w c ls g f =
    let T : Tree = at_levels g g.entry.type in
    step_types w const_rule (const c ls) T [] tt f (λ ps js h.
    go_on (w.means c) g.entry _ g.given (go_test (nat_eq (length ls) (length g.entry.levels)) _ (are_equal (length ls) (length g.entry.levels) g.levels_are) (comes_named T h)))

-- what is read of the arguments
arguments_give : (ps : List Claim) {F T : Tree} {xs : List Tree} {cs : List Claim} → ArgumentPremises F xs cs T → (js : Left) → Named ps cs js → Gives ps [] (applied_type ps js F xs) T
arguments_give ps no_argument js h = record { more = js; given = refl; named = h }
arguments_give ps (argument {F = F} {A = A} {B = B} {x = x} {X = X} {T = T} a) js h =
    gives_on (to_pi ps js F) (A, B) _ T (to_pi_gives h (λ e. tt)) (λ j₁ h₁.
    gives_on (typed ps j₁ x) X _ T (typed_gives h₁) (λ j₂ h₂.
    leaves_on (equal ps j₂ X A) _ T (equal_leaves h₂) (λ j₃ h₃. arguments_give ps a j₃ h₃)))

app_step : (w : Place) (f F T x : Tree) (xs : List Tree) (cs : List Claim) → ArgumentPremises F (x ∷ xs) cs T → IsWellFormed (apply f (x ∷ xs)) → IsWellFormed T → StepHolds w (steps.typing app_rule (apply f (x ∷ xs)) T (types f F ∷ cs))
app_step w f F T x xs cs a fe fT =
    step_types w app_rule (apply f (x ∷ xs)) T (types f F ∷ cs) fe fT (λ ps js h.
    go_states (typing ps js) f F _ (typing_states h) (λ j₁ h₁.
    go_on (arguments_over f (apply f (x ∷ xs)) []) (x ∷ xs) _ (arguments_there f x xs)
    (go_gives (applied_type ps j₁ F (x ∷ xs)) T _ (arguments_give ps a j₁ h₁) (λ j₂ h₂. comes_named T h₂))))

lam_step : (w : Place) (A b B S : Tree) (l : Level) (k : ℕ) → Fresh k (lam A b ∷ pi A B ∷ []) → IsWellFormed (lam A b) → IsWellFormed (pi A B) →
    StepHolds w (steps.typing (lam_rule (local k A)) (lam A b) (pi A B) (types A S ∷ reduces S (sort l) ∷ types (opened b (local k A)) (opened B (local k A)) ∷ []))
lam_step w A b B S l k fresh fb fB =
    let x : Tree = local k A in
    step_types w (lam_rule x) (lam A b) (pi A B) (types A S ∷ reduces S (sort l) ∷ types (opened b x) (opened B x) ∷ []) fb fB (λ ps js h.
    go_test (is_same_tree A A) _ (same_self A)
    (go_on (fresh_local A (lam A b ∷ pi A B ∷ []) x) k _ (fresh_there k A (lam A b ∷ pi A B ∷ []) fresh)
    (go_gives (sorted ps js A) l _ (sorted_gives h (λ e. tt)) (λ j₁ h₁.
    go_gives (typed ps j₁ (opened b x)) (opened B x) _ (typed_gives h₁) (λ j₂ h₂. comes_named (opened B x) h₂)))))

pi_step : (w : Place) (A B S T : Tree) (u v : Level) (k : ℕ) → Fresh k (pi A B ∷ []) → IsWellFormed (pi A B) →
    StepHolds w (steps.typing (pi_rule (local k A)) (pi A B) (sort (imax_level u v)) (types A S ∷ reduces S (sort u) ∷ types (opened B (local k A)) T ∷ reduces T (sort v) ∷ []))
pi_step w A B S T u v k fresh f =
    let x : Tree = local k A in
    let R : Tree = sort (imax_level u v) in
    step_types w (pi_rule x) (pi A B) R (types A S ∷ reduces S (sort u) ∷ types (opened B x) T ∷ reduces T (sort v) ∷ []) f tt (λ ps js h.
    go_on (fresh_local A (pi A B ∷ []) x) k _ (fresh_there k A (pi A B ∷ []) fresh)
    (go_gives (sorted ps js A) u _ (sorted_gives h (λ e. tt)) (λ j₁ h₁.
    go_gives (sorted ps j₁ (opened B x)) v _ (sorted_gives h₁ (λ e. tt)) (λ j₂ h₂. comes_named R h₂))))

let_step : (w : Place) (A v b V B S : Tree) (l : Level) → IsWellFormed (let_in A v b) → IsWellFormed B →
    StepHolds w (steps.typing let_rule (let_in A v b) B (types A S ∷ reduces S (sort l) ∷ types v V ∷ equals V A ∷ types (opened b v) B ∷ []))
let_step w A v b V B S l f fB =
    step_types w let_rule (let_in A v b) B (types A S ∷ reduces S (sort l) ∷ types v V ∷ equals V A ∷ types (opened b v) B ∷ []) f fB (λ ps js h.
    go_gives (sorted ps js A) l _ (sorted_gives h (λ e. tt)) (λ j₁ h₁.
    go_gives (typed ps j₁ v) V _ (typed_gives h₁) (λ j₂ h₂.
    go_leaves (equal ps j₂ V A) _ (equal_leaves h₂) (λ j₃ h₃.
    go_gives (typed ps j₃ (opened b v)) B _ (typed_gives h₃) (λ j₄ h₄. comes_named B h₄)))))

lit_step : (w : Place) (n : ℕ) → found w nat_shape ≡ Some tt → IsWellFormed (lit n) → StepHolds w (steps.typing lit_rule (lit n) (named nat) [])
lit_step w n t f = step_types w lit_rule (lit n) (named nat) [] f tt (λ ps js h. go_on (found w nat_shape) tt _ t (comes_named (named nat) h))

str_step : (w : Place) (s : List ℕ) → found w string_shape ≡ Some tt → StepHolds w (steps.typing str_rule (str s) (named string) [])
str_step w s t = step_types w str_rule (str s) (named string) [] tt tt (λ ps js h. go_on (found w string_shape) tt _ t (comes_named (named string) h))

-- what is read of a projection's parameters and fields
prop_shaped : {q : Bool} {A : Tree} {cs ds : List Claim} → PropPremises q A cs ds → AllShaped cs → AllShaped ds
prop_shaped not_due h = h
prop_shaped (due z) h = h.1.1

parameters_shaped : {bs : List Tree} {n : ℕ} {r T : Tree} {cs ds : List Claim} → ParameterPremises bs n r cs ds T → AllShaped cs → AllShaped ds
parameters_shaped no_parameter h = h
parameters_shaped (parameter k) h = parameters_shaped k h.1

prop_leaves : (ps : List Claim) {q : Bool} {A : Tree} {cs ds : List Claim} → PropPremises q A cs ds → (js : Left) → AllShaped cs → Named ps cs js → Leaves ps ds (prop_if q ps js A)
prop_leaves ps not_due js f h = record { more = js; given = refl; named = h }
prop_leaves ps (due {A = A} {S = S} {l = l} {cs = cs} z) js f h =
    let g : Gives ps cs (sorted ps js A) l = sorted_gives h (λ e. sort_other cs S l f.1.1 e) in
    record { more = g.more; given = some_on (sorted ps js A) (l, g.more) _ g.more g.given (some_test (is_zero_level l) _ g.more z refl); named = g.named }

parameters_give : (ps : List Claim) {bs : List Tree} {n : ℕ} {r T : Tree} {cs ds : List Claim} → ParameterPremises bs n r cs ds T → (js : Left) → AllShaped cs → Named ps cs js → Gives ps ds (past ps js bs n r) T
parameters_give ps no_parameter js f h = record { more = js; given = refl; named = h }
parameters_give ps (parameter {r = r} {A = A} {B = B} {T = T} {cs = cs} k) js f h =
    gives_on (to_pi ps js r) (A, B) _ T (to_pi_gives h (λ e. pi_other cs r A B f.1 e)) (λ j₁ h₁. parameters_give ps k j₁ f.1 h₁)

field_gives : (ps : List Claim) {S : Name} {s : Tree} {q : Bool} {j n : ℕ} {r F : Tree} {cs : List Claim} → FieldPremises S s q j n r cs F → (js : Left) → AllShaped cs → Named ps cs js → Gives ps [] (field_of ps js S s q j n r) F
field_gives ps {q = q} (this_field {r = r} {F = F} {B = B} {cs = cs} p) js f h =
    gives_on (to_pi ps js r) (F, B) _ F (to_pi_gives h (λ e. pi_other cs r F B f.1 e)) (λ j₁ h₁.
    leaves_on (prop_if q ps j₁ F) _ F (prop_leaves ps p j₁ f.1 h₁) (λ j₂ h₂. record { more = j₂; given = refl; named = h₂ }))
field_gives ps {q = q} (field_before {r = r} {A = A} {B = B} {F = F} {cs = cs} p k) js f h =
    gives_on (to_pi ps js r) (A, B) _ F (to_pi_gives h (λ e. pi_other cs r A B f.1 e)) (λ j₁ h₁.
    leaves_on (prop_if (q && has_var 0 B) ps j₁ A) _ F (prop_leaves ps p j₁ f.1 h₁) (λ j₂ h₂. field_gives ps k j₂ (prop_shaped p f.1) h₂))

-- the counts of a projection's structure
counts_pass : (w : Place) (p : Projectable w) (i : ℕ) (ys : List Tree) → i < p.ctor.fields → ys ≡ p.args →
    ((nat_eq (length ys) (p.ind.parameters + p.ind.indices) && nat_eq (length p.levels) (length p.ctor.levels)) && nat_lt i p.ctor.fields) ≡ true
counts_pass w p i ys less e =
    let n : ℕ = p.ind.parameters + p.ind.indices in
    and_true (nat_eq (length ys) n && nat_eq (length p.levels) (length p.ctor.levels)) (nat_lt i p.ctor.fields)
    (and_true (nat_eq (length ys) n) (nat_eq (length p.levels) (length p.ctor.levels))
    (are_equal (length ys) n (ap (length {A = Tree}) e ∙ p.args_are)) (are_equal (length p.levels) (length p.ctor.levels) p.levels_are))
    (is_less i p.ctor.fields less)

proj_passes : (w : Place) (ps : List Claim) (js : Left) (p : Projectable w) (i : ℕ) (s T₀ T U R F : Tree) (l : Level) (cs ds : List Claim) → i < p.ctor.fields → head T ≡ const p.name p.levels → args T ≡ p.args →
    ParameterPremises p.args p.ind.parameters (ctor_type p) cs ds R → FieldPremises p.name s (is_zero_level l) 0 i R ds F → AllShaped cs →
    Named ps (types s T₀ ∷ reduces T₀ T ∷ types T U ∷ reduces U (sort l) ∷ cs) js → passes (type_proj w ps js (proj p.name i s) F) ≡ true
proj_passes w ps js p i s T₀ T U R F l cs ds less hT aT a b f h =
    let S : Name = p.name in
    let ls : List Level = p.levels in
    let n : ℕ = p.ind.parameters in
    let ty : Tree = ctor_type p in
    go_gives (typed ps js s) T₀ _ (typed_gives h) (λ j₁ h₁.
    go_gives (reduced ps j₁ T₀) T _ (reduced_gives h₁ (λ e. tt)) (λ j₂ h₂.
    go_on (as_const (head T)) (S, ls) _ (rw hT refl)
    (go_test (same_name S S) _ (same_self_name S)
    (go_on (w.means S) p.entry _ p.given
    (go_on (the_type p.entry.kind) (p.block, p.ind) _ (rw p.kind refl)
    (go_on (the_one p.ind.ctors) p.ctor _ (rw p.one_ctor refl)
    (go_test ((nat_eq (length (args T)) (n + p.ind.indices) && nat_eq (length ls) (length p.ctor.levels)) && nat_lt i p.ctor.fields) _ (counts_pass w p i (args T) less aT)
    (go_gives (sorted ps j₂ T) l _ (sorted_gives h₂ (λ e. sort_other cs U l f e)) (λ j₃ h₃.
    go_gives (past ps j₃ (args T) n ty) R _ (subst (λ ys. Gives ps ds (past ps j₃ ys n ty) R) (sym aT) (parameters_give ps a j₃ f h₃)) (λ j₄ h₄.
    go_gives (field_of ps j₄ S s (is_zero_level l) 0 i R) F _ (field_gives ps b j₄ (parameters_shaped a f) h₄) (λ j₅ h₅. comes_named F h₅)))))))))))

proj_step : (w : Place) (p : Projectable w) (i : ℕ) (s T₀ U R F : Tree) (l : Level) (cs ds : List Claim) → i < p.ctor.fields → ParameterPremises p.args p.ind.parameters (ctor_type p) cs ds R →
    FieldPremises p.name s (is_zero_level l) 0 i R ds F → AllShaped cs → IsWellFormed s → IsWellFormed F →
    StepHolds w (steps.typing proj_rule (proj p.name i s) F (types s T₀ ∷ reduces T₀ (projectable_type p) ∷ types (projectable_type p) U ∷ reduces U (sort l) ∷ cs))
proj_step w p i s T₀ U R F l cs ds less a b f fs fF =
    let T : Tree = projectable_type p in
    step_types w proj_rule (proj p.name i s) F (types s T₀ ∷ reduces T₀ T ∷ types T U ∷ reduces U (sort l) ∷ cs) fs fF (λ ps js h.
    proj_passes w ps js p i s T₀ T U R F l cs ds less (const_head p.name p.levels p.args) (const_args p.name p.levels p.args) a b f h)

pub typing_steps : (w : Place) → TypingSteps w
typing_steps w = record {
  sorts = λ l. step_types w sort_rule (sort l) (sort (succ_level l)) [] tt tt (λ ps js h. comes_named (sort (succ_level l)) h);
  locals = λ k T f. step_types w local_rule (local k T) T [] f f.0 (λ ps js h. comes_named T h);
  consts = λ c ls g f. const_step w c ls g f;
  apps = λ f F T x xs cs a fe fT. app_step w f F T x xs cs a fe fT;
  lams = λ A b B S l k fresh fb fB. lam_step w A b B S l k fresh fb fB;
  pis = λ A B S T u v k fresh f. pi_step w A B S T u v k fresh f;
  lets = λ A v b V B S l f fB. let_step w A v b V B S l f fB;
  lits = λ n t f. lit_step w n t f;
  strs = λ s t. str_step w s t;
  projs = λ S i e T₀ U T F l cs ds less a b f fe fF. proj_step w S i e T₀ U T F l cs ds less a b f fe fF;
}
