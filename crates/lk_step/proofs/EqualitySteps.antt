-- Steps of conversion hold.
use Rattle.std.proofs.Common.{ℕ, suc, ◌≡◌, ◌<◌, true, ◌&&◌, nat_eq, length, List, [], ◌∷◌, Some, refl, subst, sym, arith}
use Rattle.std.specs.Str.{chars}
use Rattle.lk_tree.specs.Tree.{Name, Level, Tree, sort, const, app, lam, pi, proj, lit, str, local}
use Rattle.lk_tree.specs.Bind.{opened, Fresh}
use Rattle.lk_tree.specs.Level.{is_zero_level}
use Rattle.lk_tree.specs.LevelTest.{level_test}
use Rattle.lk_tree.specs.Spine.{apply, IsNeutral, IsHeadNormal}
use Rattle.lk_tree.specs.WellFormed.{IsWellFormed}
use Rattle.lk_tree.specs.Mentions.{same_name}
use Rattle.lk_tree.proofs.Scans.{and_true}
use Rattle.lk_rulebook.specs.Place.{Place}
use Rattle.lk_rulebook.specs.Names.{named, nat_zero, nat_succ}
use Rattle.lk_rulebook.specs.Literals.{expansion}
use Rattle.lk_rulebook.specs.Claims.{Claim, types, reduces, equals}
use Rattle.lk_questions.specs.Same.{eta_long}
use Rattle.lk_questions.specs.Steps.{is_same_tree}
use Rattle.lk_questions.specs.Strings.{expansion_of}
use Rattle.lk_questions.specs.Tests.{passes, found, is_true, same_levels}
use Rattle.lk_claims.proofs.Facts.{same_self, pass_test, some_on}
use Rattle.lk_written.specs.Line.{reduce_rule, sorts_rule, consts_rule, apps_rule, projs_rule, lams_rule, pis_rule, eta_rule, proof_rule, zero_rule, succ_rule, str_left_rule, str_right_rule}
use Rattle.lk_written.specs.Premises.{Left, fresh_local, typed, reduced, equal, to_pi, sorted, is_prop_by}
use Rattle.lk_written.specs.Equal.{is_neutral, is_head_normal, spines_equal, eq_sorts, eq_consts, eq_bodies}
use Rattle.lk_written_sound.proofs.Writings.{are_equal, go_on, go_test, some_test, fresh_there}
use Rattle.lk_written_sound.proofs.EqualRules.{same_self_name, neutral_passes, normal_passes}
use Rattle.lk_written_sound.proofs.MoreRules.{second_lam}
use Rattle.lk_step.specs.Steps.{equality, StepHolds}
use Rattle.lk_step.specs.Equal.{spine_claims, body_claims, proof_claims, EqualitySteps}
use Rattle.lk_step.proofs.Naming.{Named, Gives, Leaves, typed_gives, reduced_gives, to_pi_gives, sorted_gives, equal_leaves, go_gives, go_leaves, ends_named, comes_named, step_equals}
use Rattle.lk_step.proofs.SpineSteps.{spine_there, neutral_apply}
use Rattle.lk_step.proofs.StructureSteps.{unit_step, struct_left_step, struct_right_step}

-- where a is b, and that it reduces to itself is left out, what comes next is no reduction of it
reduce_step : (w : Place) (a b a' b' : Tree) → IsWellFormed a → IsWellFormed b → (a ≡ b → a ≡ a' → b ≡ b') → StepHolds w (equality reduce_rule a b (reduces a a' ∷ reduces b b' ∷ equals a' b' ∷ []))
reduce_step w a b a' b' fa fb other = step_equals w reduce_rule a b (reduces a a' ∷ reduces b b' ∷ equals a' b' ∷ []) fa fb (λ ps js h.
    go_gives (reduced ps js a) a' _ (reduced_gives h (λ e. ((λ s. other (sym s) e), tt))) (λ js h.
    go_gives (reduced ps js b) b' _ (reduced_gives h (λ e. tt)) (λ js h.
    go_leaves (equal ps js a' b') _ (equal_leaves h) (λ js h. ends_named h))))

sorts_step : (w : Place) (l m : Level) → is_true (level_test l m) ≡ true → StepHolds w (equality sorts_rule (sort l) (sort m) [])
sorts_step w l m t = step_equals w sorts_rule (sort l) (sort m) [] tt tt (λ ps js h.
    let none : js ≡ [] = h.are in
    subst (λ z. passes (eq_sorts z (sort l) (sort m)) ≡ true) (sym none) (pass_test (is_true (level_test l m)) t))

consts_step : (w : Place) (c : Name) (ls ms : List Level) → same_levels ls ms ≡ true → StepHolds w (equality consts_rule (const c ls) (const c ms) [])
consts_step w c ls ms t = step_equals w consts_rule (const c ls) (const c ms) [] tt tt (λ ps js h.
    let none : js ≡ [] = h.are in
    subst (λ z. passes (eq_consts z (const c ls) (const c ms)) ≡ true) (sym none)
    (pass_test (same_name c c && same_levels ls ms) (and_true (same_name c c) (same_levels ls ms) (same_self_name c) t)))

apps_step : (w : Place) (f g : Tree) (xs ys : List Tree) → IsNeutral f → IsNeutral g → 0 < length xs → length xs ≡ length ys → IsWellFormed (apply f xs) → IsWellFormed (apply g ys) →
    StepHolds w (equality apps_rule (apply f xs) (apply g ys) (spine_claims f g xs ys))
apps_step w f g xs ys nf ng some count fa fb =
    let a : Tree = apply f xs in
    let b : Tree = apply g ys in
    step_equals w apps_rule a b (spine_claims f g xs ys) fa fb (λ ps js h.
    go_test (is_neutral a && is_neutral b) _ (and_true (is_neutral a) (is_neutral b) (neutral_passes a (neutral_apply f xs nf)) (neutral_passes b (neutral_apply g ys ng)))
    (go_on (spines_equal ps js a b []) [] _ (spine_there ps f g xs ys js some count h.are) refl))

-- the domains, and the bodies under a Local
bodies_named : (ps : List Claim) (js : Left) (k : ℕ) (A A' b b' : Tree) → Named ps (body_claims (local k A) A A' b b') js → passes (eq_bodies ps js k (A, b) (A', b')) ≡ true
bodies_named ps js k A A' b b' h =
    go_leaves (equal ps js A A') _ (equal_leaves h) (λ js h.
    go_leaves (equal ps js (opened b (local k A)) (opened b' (local k A))) _ (equal_leaves h) (λ js h. ends_named h))

lams_step : (w : Place) (A A' b b' : Tree) (k : ℕ) → Fresh k (lam A b ∷ lam A' b' ∷ []) → IsWellFormed (lam A b) → IsWellFormed (lam A' b') →
    StepHolds w (equality (lams_rule (local k A)) (lam A b) (lam A' b') (body_claims (local k A) A A' b b'))
lams_step w A A' b b' k fresh fa fb = step_equals w (lams_rule (local k A)) (lam A b) (lam A' b') (body_claims (local k A) A A' b b') fa fb (λ ps js h.
    go_on (fresh_local A (lam A b ∷ lam A' b' ∷ []) (local k A)) k _ (fresh_there k A (lam A b ∷ lam A' b' ∷ []) fresh) (bodies_named ps js k A A' b b' h))

pis_step : (w : Place) (A A' B B' : Tree) (k : ℕ) → Fresh k (pi A B ∷ pi A' B' ∷ []) → IsWellFormed (pi A B) → IsWellFormed (pi A' B') →
    StepHolds w (equality (pis_rule (local k A)) (pi A B) (pi A' B') (body_claims (local k A) A A' B B'))
pis_step w A A' B B' k fresh fa fb = step_equals w (pis_rule (local k A)) (pi A B) (pi A' B') (body_claims (local k A) A A' B B') fa fb (λ ps js h.
    go_on (fresh_local A (pi A B ∷ pi A' B' ∷ []) (local k A)) k _ (fresh_there k A (pi A B ∷ pi A' B' ∷ []) fresh) (bodies_named ps js k A A' B B' h))

projs_step : (w : Place) (S : Name) (i : ℕ) (s t : Tree) → IsWellFormed s → IsWellFormed t → StepHolds w (equality projs_rule (proj S i s) (proj S i t) (equals s t ∷ []))
projs_step w S i s t fs ft = step_equals w projs_rule (proj S i s) (proj S i t) (equals s t ∷ []) fs ft (λ ps js h.
    go_test (same_name S S && nat_eq i i) _ (and_true (same_name S S) (nat_eq i i) (same_self_name S) (are_equal i i refl))
    (go_leaves (equal ps js s t) _ (equal_leaves h) (λ js h. ends_named h)))

eta_right_step : (w : Place) (o T A B A' b : Tree) → IsNeutral o → IsWellFormed o → IsWellFormed (lam A' b) →
    StepHolds w (equality eta_rule (lam A' b) o (types o T ∷ reduces T (pi A B) ∷ equals (lam A' b) (eta_long A o) ∷ []))
eta_right_step w o T A B A' b neutral fo fl =
    step_equals w eta_rule (lam A' b) o (types o T ∷ reduces T (pi A B) ∷ equals (lam A' b) (eta_long A o) ∷ []) fl fo (λ ps js h.
    go_test (is_neutral o) _ (neutral_passes o neutral)
    (go_gives (typed ps js o) T _ (typed_gives h) (λ js h.
    go_gives (to_pi ps js T) (A, B) _ (to_pi_gives h (λ e. tt)) (λ js h.
    go_leaves (equal ps js (lam A' b) (eta_long A o)) _ (equal_leaves h) (λ js h. ends_named h)))))

eta_left_step : (w : Place) (o T A B A' b : Tree) → IsNeutral o → IsWellFormed o → IsWellFormed (lam A' b) →
    StepHolds w (equality eta_rule o (lam A' b) (types o T ∷ reduces T (pi A B) ∷ equals (eta_long A o) (lam A' b) ∷ []))
eta_left_step w o T A B A' b neutral fo fl =
    step_equals w eta_rule o (lam A' b) (types o T ∷ reduces T (pi A B) ∷ equals (eta_long A o) (lam A' b) ∷ []) fo fl (λ ps js h.
    second_lam ps js o A' b neutral
    (go_test (is_neutral o) _ (neutral_passes o neutral)
    (go_gives (typed ps js o) T _ (typed_gives h) (λ js h.
    go_gives (to_pi ps js T) (A, B) _ (to_pi_gives h (λ e. tt)) (λ js h.
    go_leaves (equal ps js (eta_long A o) (lam A' b)) _ (equal_leaves h) (λ js h. ends_named h))))))

-- A is a proposition
prop_leaves : (ps : List Claim) (js : Left) (A : Tree) {cs : List Claim} {l : Level} → is_zero_level l ≡ true → Gives ps cs (sorted ps js A) l → Leaves ps cs (is_prop_by ps js A)
prop_leaves ps js A {cs} {l} z g =
    record { more = g.more; given = some_on (sorted ps js A) (l, g.more) _ g.more g.given (some_test (is_zero_level l) _ g.more z refl); named = g.named }

proof_step : (w : Place) (a b A B S : Tree) (l : Level) → IsHeadNormal a → IsHeadNormal b → is_zero_level l ≡ true → IsWellFormed a → IsWellFormed b → StepHolds w (equality proof_rule a b (proof_claims a b A B S l))
proof_step w a b A B S l na nb z fa fb = step_equals w proof_rule a b (proof_claims a b A B S l) fa fb (λ ps js h.
    go_test (is_head_normal a && is_head_normal b) _ (and_true (is_head_normal a) (is_head_normal b) (normal_passes a na) (normal_passes b nb))
    (go_gives (typed ps js a) A _ (typed_gives h) (λ js h.
    go_leaves (is_prop_by ps js A) _ (prop_leaves ps js A z (sorted_gives h (λ e. tt))) (λ js h.
    go_gives (typed ps js b) B _ (typed_gives h) (λ js h.
    go_leaves (equal ps js A B) _ (equal_leaves h) (λ js h. ends_named h))))))

zero_left_step : (w : Place) → StepHolds w (equality zero_rule (lit 0) (named nat_zero) [])
zero_left_step w = step_equals w zero_rule (lit 0) (named nat_zero) [] (omega arith) tt (λ ps js h. comes_named (named nat_zero) h)

zero_right_step : (w : Place) → StepHolds w (equality zero_rule (named nat_zero) (lit 0) [])
zero_right_step w = step_equals w zero_rule (named nat_zero) (lit 0) [] tt (omega arith) (λ ps js h. comes_named (named nat_zero) h)

succ_left_step : (w : Place) (n : ℕ) (x : Tree) → IsWellFormed (lit (suc n)) → IsWellFormed x → StepHolds w (equality succ_rule (lit (suc n)) (app (named nat_succ) x) (equals (lit n) x ∷ []))
succ_left_step w n x fn fx = step_equals w succ_rule (lit (suc n)) (app (named nat_succ) x) (equals (lit n) x ∷ []) fn (tt, fx) (λ ps js h.
    go_test (is_same_tree (named nat_succ) (named nat_succ)) _ (same_self (named nat_succ))
    (go_leaves (equal ps js (lit n) x) _ (equal_leaves h) (λ js h. ends_named h)))

succ_right_step : (w : Place) (n : ℕ) (x : Tree) → IsWellFormed (lit (suc n)) → IsWellFormed x → StepHolds w (equality succ_rule (app (named nat_succ) x) (lit (suc n)) (equals x (lit n) ∷ []))
succ_right_step w n x fn fx = step_equals w succ_rule (app (named nat_succ) x) (lit (suc n)) (equals x (lit n) ∷ []) (tt, fx) fn (λ ps js h.
    go_test (is_same_tree (named nat_succ) (named nat_succ)) _ (same_self (named nat_succ))
    (go_leaves (equal ps js x (lit n)) _ (equal_leaves h) (λ js h. ends_named h)))

str_left_step : (w : Place) (s : List ℕ) (b : Tree) → found w (expansion_of s) ≡ Some (Some (expansion (chars s))) → IsWellFormed b →
    StepHolds w (equality str_left_rule (str s) b (equals (expansion (chars s)) b ∷ []))
str_left_step w s b t fb = step_equals w str_left_rule (str s) b (equals (expansion (chars s)) b ∷ []) tt fb (λ ps js h.
    go_on (found w (expansion_of s)) (Some (expansion (chars s))) _ t
    (go_leaves (equal ps js (expansion (chars s)) b) _ (equal_leaves h) (λ js h. ends_named h)))

str_right_step : (w : Place) (s : List ℕ) (a : Tree) → found w (expansion_of s) ≡ Some (Some (expansion (chars s))) → IsWellFormed a →
    StepHolds w (equality str_right_rule a (str s) (equals a (expansion (chars s)) ∷ []))
str_right_step w s a t fa = step_equals w str_right_rule a (str s) (equals a (expansion (chars s)) ∷ []) fa tt (λ ps js h.
    go_on (found w (expansion_of s)) (Some (expansion (chars s))) _ t
    (go_leaves (equal ps js a (expansion (chars s))) _ (equal_leaves h) (λ js h. ends_named h)))

pub equality_steps : (w : Place) → EqualitySteps w
equality_steps w = record {
  reduce = λ a b a' b' fa fb other. reduce_step w a b a' b' fa fb other;
  sorts = λ l m t. sorts_step w l m t;
  consts = λ c ls ms t. consts_step w c ls ms t;
  apps = λ f g xs ys nf ng some count fa fb. apps_step w f g xs ys nf ng some count fa fb;
  lams = λ A A' b b' k fresh fa fb. lams_step w A A' b b' k fresh fa fb;
  pis = λ A A' B B' k fresh fa fb. pis_step w A A' B B' k fresh fa fb;
  projs = λ S i s t fs ft. projs_step w S i s t fs ft;
  eta_left = λ o T A B A' b neutral fo fl. eta_left_step w o T A B A' b neutral fo fl;
  eta_right = λ o T A B A' b neutral fo fl. eta_right_step w o T A B A' b neutral fo fl;
  proof = λ a b A B S l na nb z fa fb. proof_step w a b A B S l na nb z fa fb;
  zero_left = zero_left_step w;
  zero_right = zero_right_step w;
  succ_left = λ n x fn fx. succ_left_step w n x fn fx;
  succ_right = λ n x fn fx. succ_right_step w n x fn fx;
  str_left = λ s b t fb. str_left_step w s b t fb;
  str_right = λ s a t fa. str_right_step w s a t fa;
  unit = λ u ls bs a b A B na nb count fa fb. unit_step w u ls bs a b A B na nb count fa fb;
  struct_left = λ S xs a A B na count fa fb. struct_left_step w S xs a A B na count fa fb;
  struct_right = λ S xs a A B na count fa fb. struct_right_step w S xs a A B na count fa fb;
}
