-- Core and Whnf keep to a set of names.
use Rattle.std.proofs.Common.{ℕ, zero, suc, ◌+◌, ◌&&◌, length, nat_eq, take, drop, Bool, true, false, List, [], ◌∷◌, Some, None, Option, if◌then◌else◌}
use Rattle.std.specs.Prelude.{slice_get, nat_le}
use Rattle.lk_tree.specs.Tree.{Name, Level, Tree, var, sort, const, app, lam, pi, let_in, proj, lit, wide, str, local}
use Rattle.lk_tree.specs.Level.{is_zero_level}
use Rattle.lk_tree.specs.Bind.{opened}
use Rattle.lk_tree.specs.Spine.{apply, head, args}
use Rattle.lk_rulebook.specs.Place.{Entry, Kind, Recursor, RecRule, a_def, a_thm, an_axiom, an_opaque, a_quot, a_type, a_ctor, a_rec}
use Rattle.lk_rulebook.specs.Names.{quot_mk, quot_lift, quot_ind}
use Rattle.lk_tree.specs.Mentions.{same_name}
use Rattle.lk_rulebook.specs.Structures.{before_major, projections}
use Rattle.lk_questions.specs.Query.{core, whnf}
use Rattle.lk_questions.specs.Program.{Program, done, asked, ◌>>=◌}
use Rattle.lk_questions.specs.Steps.{is_same_tree, sort_of, with_levels, value_of}
use Rattle.lk_questions.specs.Strings.{literal_to_ctor, text_to_ctor}
use Rattle.lk_questions.specs.Literals.{literal_step}
use Rattle.lk_questions.specs.Quotients.{by_quot, at_mk, at_major, core_lift, core_ind, core_quot}
use Rattle.lk_questions.specs.Iota.{CtorApp, ctor_app_by, ctor_app_of, only_ctor, levels_at, k_from, to_ctor_when_k, fitting_rule, by_rule, iota_at_ctor, expanded, builds_structure, expand_at, to_ctor_when_structure, as_ctor_app, iota_of, iota_after_k, iota, core_constant, picked, core_field, core_proj}
use Rattle.lk_questions.specs.Core.{lambdas, beta, core_applied, core_steps, unfolded, stepped, whnf_headed, whnf_steps}
use Rattle.lk_closure.proofs.Names.{Over, AllOver, KindOver, RulesOver, HasBuiltins}
use Rattle.lk_closure.proofs.Within.{Within}
use Rattle.lk_closure.proofs.Trees.{over_open, over_apply, over_append, over_head, over_args, over_take, over_drop, over_at, over_projections, IfOver}
use Rattle.lk_closure.proofs.Pieces.{Any, within_bind, within_if, within_sort_of, within_with_levels}
use Rattle.lk_closure.proofs.Literals.{within_read, within_read_text, within_literal_step}

abbrev pub BuiltOver : (Name → Type 0) → Option CtorApp → Type 0
BuiltOver P None = Unit {0}
BuiltOver P (Some b) = P b.name × AllOver P b.args

built_over : (P : Name → Type 0) (c : Name) (ks : List Level) (xs : List Tree) (g : Entry) (k : Kind) → P c → AllOver P xs → BuiltOver P (ctor_app_by c ks xs g k)
built_over P c ks xs g (a_ctor b i m) h os = (h, os)
built_over P c ks xs g _ h os = tt

pub within_built : (P : Name → Type 0) (h : Tree) (xs : List Tree) → Over P h → AllOver P xs → Within P (ctor_app_of h xs) (BuiltOver P)
within_built P (const c ks) xs o os = (o, λ g e. built_over P c ks xs g g.kind o os)
within_built P _ xs o os = tt

within_only : (P : Name → Type 0) (rs : List RecRule) → RulesOver P rs → Within P (only_ctor rs) (BuiltOver P)
within_only P [] h = tt
within_only P (r ∷ []) h = (h.0.0, λ g e. built_over P r.ctor [] [] g g.kind h.0.0 tt)
within_only P (r ∷ s ∷ rs) h = tt

within_k_from : (P : Name → Type 0) (b : CtorApp) (T : Tree) (o : Option (List Level)) → P b.name → Over P T → Within P (k_from b T o) (IfOver P)
within_k_from P b T None h t = tt
within_k_from P b T (Some ks) h t =
    let d : Tree = apply (const b.name ks) (take b.ctor.parameters (args T)) in
    let od : Over P d = over_apply P (const b.name ks) (take b.ctor.parameters (args T)) h (over_take P b.ctor.parameters (args T) (over_args P T t)) in
    within_if P (nat_le b.ctor.parameters (length (args T))) _ (done None) (IfOver P)
    (od, λ D oD. ((t, oD), λ equal a. within_if P equal (done (Some d)) (done None) (IfOver P) od tt)) tt

within_k_step : (P : Name → Type 0) (r : Recursor) (major : Tree) (o : Option CtorApp) → BuiltOver P o → Over P major → Within P (to_ctor_when_k r major o) (IfOver P)
within_k_step P r major None h m = tt
within_k_step P r major (Some b) h m = (m, λ T₀ t₀. (t₀, λ T t. within_k_from P b T (levels_at b.ind.name (head T)) h.0 t))

abbrev RuleOver : (Name → Type 0) → Option RecRule → Type 0
RuleOver P None = Unit {0}
RuleOver P (Some r) = Over P r.value

rule_if : (P : Name → Type 0) (b : Bool) (x y : Option RecRule) → RuleOver P x → RuleOver P y → RuleOver P (if b then x else y)
rule_if P true x y h i = h
rule_if P false x y h i = i

fitting_over : (P : Name → Type 0) (rs : List RecRule) (c : Name) (p n : ℕ) → RulesOver P rs → RuleOver P (fitting_rule rs c p n)
fitting_over P [] c p n h = tt
fitting_over P (r ∷ rs) c p n h = rule_if P (same_name r.ctor c && nat_eq n (p + r.fields)) (Some r) (fitting_rule rs c p n) h.0.1 (fitting_over P rs c p n h.1)

within_by_rule : (P : Name → Type 0) (e : Tree) (g : Entry) (ls : List Level) (r : Recursor) (front rest : List Tree) (b : CtorApp) (o : Option RecRule) →
    Over P e → AllOver P front → AllOver P rest → AllOver P b.args → RuleOver P o → Within P (by_rule e g ls r front rest b o) (Over P)
within_by_rule P e g ls r front rest b None oe of or ob h = oe
within_by_rule P e g ls r front rest b (Some rule) oe of or ob h =
    within_bind P (with_levels g ls rule.value) (λ v. asked (core (apply (apply (apply v (take (r.parameters + r.motives + r.minors) front)) (drop b.ctor.parameters b.args)) rest))) (Over P) (Over P)
    (within_with_levels P g ls rule.value h)
    (λ v ov. (
      over_apply P (apply (apply v (take (r.parameters + r.motives + r.minors) front)) (drop b.ctor.parameters b.args)) rest
          (over_apply P (apply v (take (r.parameters + r.motives + r.minors) front)) (drop b.ctor.parameters b.args)
          (over_apply P v (take (r.parameters + r.motives + r.minors) front) ov (over_take P (r.parameters + r.motives + r.minors) front of))
          (over_drop P b.ctor.parameters b.args ob)) or,
      λ u ou. ou,
    ))

within_iota_built : (P : Name → Type 0) (e : Tree) (g : Entry) (ls : List Level) (r : Recursor) (front rest : List Tree) (o : Option CtorApp) →
    Over P e → AllOver P front → AllOver P rest → RulesOver P r.rules → BuiltOver P o → Within P (iota_at_ctor e g ls r front rest o) (Over P)
within_iota_built P e g ls r front rest None oe of or rs h = oe
within_iota_built P e g ls r front rest (Some b) oe of or rs h =
    within_by_rule P e g ls r front rest b (fitting_rule r.rules b.name b.ctor.parameters (length b.args)) oe of or h.1 (fitting_over P r.rules b.name b.ctor.parameters (length b.args) rs)

within_expand_at : (P : Name → Type 0) (k : CtorApp) (m T : Tree) (o : Option (List Level)) → P k.name → Over P m → Over P T → Within P (expand_at k m T o) (BuiltOver P)
within_expand_at P k m T None h om ot = tt
within_expand_at P k m T (Some ls) h om ot =
    within_if P (nat_eq (length (args T)) k.ctor.parameters) (sort_of T >>= λ l. if is_zero_level l then done None else done (Some (expanded k ls m (args T)))) (done None) (BuiltOver P)
    (within_bind P (sort_of T) (λ l. if is_zero_level l then done None else done (Some (expanded k ls m (args T)))) Any (BuiltOver P) (within_sort_of P T ot)
    (λ l a. within_if P (is_zero_level l) (done None) (done (Some (expanded k ls m (args T)))) (BuiltOver P) tt
    (h, over_append P (args T) (projections k.ind.name m 0 k.ctor.fields) (over_args P T ot) (over_projections P k.ind.name m 0 k.ctor.fields om)))) tt

within_expand : (P : Name → Type 0) (m : Tree) (o : Option CtorApp) → Over P m → BuiltOver P o → Within P (to_ctor_when_structure m o) (BuiltOver P)
within_expand P m None om h = tt
within_expand P m (Some k) om h =
    within_if P (builds_structure k) _ (done None) (BuiltOver P)
    (om, λ T₀ t₀. (t₀, λ T t. within_expand_at P k m T (levels_at k.ind.name (head T)) h.0 om t)) tt

within_as_built : (P : Name → Type 0) (r : Recursor) (m : Tree) (o : Option CtorApp) → RulesOver P r.rules → Over P m → BuiltOver P o → Within P (as_ctor_app r m o) (BuiltOver P)
within_as_built P r m (Some b) rs om h = h
within_as_built P r m None rs om h = within_bind P (only_ctor r.rules) (λ k. to_ctor_when_structure m k) (BuiltOver P) (BuiltOver P) (within_only P r.rules rs) (λ k ok. within_expand P m k om ok)

within_iota_of : (P : Name → Type 0) (e : Tree) (g : Entry) (ls : List Level) (r : Recursor) (front rest : List Tree) (m : Tree) →
    Over P e → AllOver P front → AllOver P rest → RulesOver P r.rules → Over P m → Within P (iota_of e g ls r front rest m) (Over P)
within_iota_of P e g ls r front rest m oe of or rs om =
    within_bind P (ctor_app_of (head m) (args m)) (λ b. as_ctor_app r m b >>= λ c. iota_at_ctor e g ls r front rest c) (BuiltOver P) (Over P)
    (within_built P (head m) (args m) (over_head P m om) (over_args P m om))
    (λ b ob. within_bind P (as_ctor_app r m b) (λ c. iota_at_ctor e g ls r front rest c) (BuiltOver P) (Over P) (within_as_built P r m b rs om ob)
    (λ c oc. within_iota_built P e g ls r front rest c oe of or rs oc))

within_after_k : (P : Name → Type 0) → HasBuiltins P → (e : Tree) (g : Entry) (ls : List Level) (r : Recursor) (front : List Tree) (major : Tree) (rest : List Tree) (o : Option Tree) →
    Over P e → AllOver P front → Over P major → AllOver P rest → RulesOver P r.rules → IfOver P o → Within P (iota_after_k e g ls r front major rest o) (Over P)
within_after_k P b e g ls r front major rest (Some d) oe of om or rs h = within_iota_of P e g ls r front rest d oe of or rs h
within_after_k P b e g ls r front major rest None oe of om or rs h = (
  om,
  λ w ow. within_bind P (literal_to_ctor w) (λ m. iota_of e g ls r front rest m) (Over P) (Over P) (within_read P b w ow)
      (λ m o. within_iota_of P e g ls r front rest m oe of or rs o),
)

within_iota : (P : Name → Type 0) → HasBuiltins P → (e : Tree) (g : Entry) (ls : List Level) (r : Recursor) (front : List Tree) (major : Option Tree) (rest : List Tree) →
    Over P e → AllOver P front → IfOver P major → AllOver P rest → RulesOver P r.rules → Within P (iota e g ls r front major rest) (Over P)
within_iota P b e g ls r front None rest oe of om or rs = oe
within_iota P b e g ls r front (Some major) rest oe of om or rs =
    within_if P r.k (only_ctor r.rules >>= λ c. to_ctor_when_k r major c >>= λ d. iota_after_k e g ls r front major rest d) (iota_after_k e g ls r front major rest None) (Over P)
    (within_bind P (only_ctor r.rules) (λ c. to_ctor_when_k r major c >>= λ d. iota_after_k e g ls r front major rest d) (BuiltOver P) (Over P) (within_only P r.rules rs)
    (λ c oc. within_bind P (to_ctor_when_k r major c) (λ d. iota_after_k e g ls r front major rest d) (IfOver P) (Over P) (within_k_step P r major c oc om)
    (λ d od. within_after_k P b e g ls r front major rest d oe of om or rs od)))
    (within_after_k P b e g ls r front major rest None oe of om or rs tt)

within_at_mk : (P : Name → Type 0) (e f : Tree) (rest : List Tree) (h : Tree) (xs : List Tree) → Over P e → Over P f → AllOver P rest → Over P h → AllOver P xs → HasBuiltins P →
    Within P (at_mk e f rest h xs) (Over P)
within_at_mk P e f rest (const c ks) (A ∷ r ∷ a ∷ []) oe of or oh os b =
    within_if P (same_name c quot_mk) _ (done e) (Over P)
    (b.of_quot_mk, λ g o. within_if P (by_quot g.kind) (asked (core (apply (app f a) rest))) (done e) (Over P) (over_apply P (app f a) rest (of, os.1.1.0) or, λ u ou. ou) oe) oe
within_at_mk P e f rest _ _ oe of or oh os b = oe

within_at_major : (P : Name → Type 0) → HasBuiltins P → (e f major : Tree) (rest : List Tree) → Over P e → Over P f → Over P major → AllOver P rest → Within P (at_major e f major rest) (Over P)
within_at_major P b e f major rest oe of om or = (om, λ m o. within_at_mk P e f rest (head m) (args m) oe of or (over_head P m o) (over_args P m o) b)

within_lift : (P : Name → Type 0) → HasBuiltins P → (e : Tree) (xs : List Tree) → Over P e → AllOver P xs → Within P (core_lift e xs) (Over P)
within_lift P b e (A ∷ r ∷ B ∷ f ∷ h ∷ major ∷ rest) oe os = within_at_major P b e f major rest oe os.1.1.1.0 os.1.1.1.1.1.0 os.1.1.1.1.1.1
within_lift P b e _ oe os = oe

within_ind : (P : Name → Type 0) → HasBuiltins P → (e : Tree) (xs : List Tree) → Over P e → AllOver P xs → Within P (core_ind e xs) (Over P)
within_ind P b e (A ∷ r ∷ B ∷ h ∷ major ∷ rest) oe os = within_at_major P b e h major rest oe os.1.1.1.0 os.1.1.1.1.0 os.1.1.1.1.1
within_ind P b e _ oe os = oe

within_quot : (P : Name → Type 0) → HasBuiltins P → (e : Tree) (c : Name) (xs : List Tree) → Over P e → AllOver P xs → Within P (core_quot e c xs) (Over P)
within_quot P b e c xs oe os =
    within_if P (same_name c quot_lift) (core_lift e xs) _ (Over P) (within_lift P b e xs oe os)
    (within_if P (same_name c quot_ind) (core_ind e xs) (done e) (Over P) (within_ind P b e xs oe os) oe)

within_constant : (P : Name → Type 0) → HasBuiltins P → (e : Tree) (c : Name) (ls : List Level) (xs : List Tree) (g : Entry) (k : Kind) → Over P e → AllOver P xs → KindOver P k →
    Within P (core_constant e c ls xs g k) (Over P)
within_constant P b e c ls xs g (a_rec r) oe os h =
    within_iota P b e g ls r (take (before_major r) xs) (slice_get xs (before_major r)) (drop (suc (before_major r)) xs) oe
    (over_take P (before_major r) xs os) (over_at P (before_major r) xs os) (over_drop P (suc (before_major r)) xs os) h
within_constant P b e c ls xs g a_quot oe os h = within_quot P b e c xs oe os
within_constant P b e c ls xs g _ oe os h = oe

within_picked : (P : Name → Type 0) (e : Tree) (o : Option Tree) → Over P e → IfOver P o → Within P (picked e o) (Over P)
within_picked P e (Some x) oe h = (h, λ u ou. ou)
within_picked P e None oe h = oe

within_field : (P : Name → Type 0) (e : Tree) (S : Name) (i : ℕ) (o : Option CtorApp) → Over P e → BuiltOver P o → Within P (core_field e S i o) (Over P)
within_field P e S i None oe h = oe
within_field P e S i (Some b) oe h =
    within_if P (same_name b.ind.name S) (picked e (slice_get b.args (b.ctor.parameters + i))) (done e) (Over P)
    (within_picked P e (slice_get b.args (b.ctor.parameters + i)) oe (over_at P (b.ctor.parameters + i) b.args h.1)) oe

within_core_proj : (P : Name → Type 0) → HasBuiltins P → (S : Name) (i : ℕ) (s : Tree) → Over P s → Within P (core_proj S i s) (Over P)
within_core_proj P b S i s h = (
  h,
  λ w ow. within_bind P (text_to_ctor w) (λ m. ctor_app_of (head m) (args m) >>= λ c. core_field (proj S i s) S i c) (Over P) (Over P) (within_read_text P b w ow)
      (λ m om. within_bind P (ctor_app_of (head m) (args m)) (λ c. core_field (proj S i s) S i c) (BuiltOver P) (Over P)
      (within_built P (head m) (args m) (over_head P m om) (over_args P m om)) (λ c oc. within_field P (proj S i s) S i c h oc)),
)

over_beta : (P : Name → Type 0) (n : ℕ) (h : Tree) (xs : List Tree) → Over P h → AllOver P xs → Over P (beta n h xs)
over_beta P (suc n) (lam A b) (a ∷ rest) oh os = over_beta P n (opened b a) rest (over_open P 0 a b oh.1 os.0) os.1
over_beta P (suc n) (lam A b) [] oh os = oh
over_beta P zero h xs oh os = over_apply P h xs oh os
over_beta P (suc n) h xs oh os = over_apply P h xs oh os

-- the head's core, then the whole
within_then : (P : Name → Type 0) (e h : Tree) (xs : List Tree) → Over P e → Over P h → AllOver P xs →
    Within P (asked (core h) >>= λ u. if is_same_tree u h then done e else asked (core (apply u xs))) (Over P)
within_then P e h xs oe oh os = (oh, λ u ou. within_if P (is_same_tree u h) (done e) (asked (core (apply u xs))) (Over P) oe (over_apply P u xs ou os, λ v ov. ov))

within_applied : (P : Name → Type 0) → HasBuiltins P → (e h : Tree) (xs : List Tree) → Over P e → Over P h → AllOver P xs → Within P (core_applied e h xs) (Over P)
within_applied P b e (lam A c) xs oe oh os = (over_beta P (lambdas (lam A c)) (lam A c) xs oh os, λ u ou. ou)
within_applied P b e (let_in A v c) xs oe oh os = within_then P e (let_in A v c) xs oe oh os
within_applied P b e (proj S i s) xs oe oh os = within_then P e (proj S i s) xs oe oh os
within_applied P b e (const c ls) xs oe oh os = (oh, λ g o. within_constant P b e c ls xs g g.kind oe os o.1)
within_applied P b e _ xs oe oh os = oe

pub within_core : (P : Name → Type 0) → HasBuiltins P → (e : Tree) → Over P e → Within P (core_steps e) (Over P)
within_core P b (let_in A v c) h = (over_open P 0 v c h.2 h.1, λ u ou. ou)
within_core P b (app f a) h = within_applied P b (app f a) (head f) (args (app f a)) h (over_head P f h.0) (over_args P (app f a) h)
within_core P b (proj S i s) h = within_core_proj P b S i s h
within_core P b (var i) h = h
within_core P b (sort l) h = h
within_core P b (const c ls) h = h
within_core P b (lam A c) h = h
within_core P b (pi A c) h = h
within_core P b (lit n) h = h
within_core P b wide h = h
within_core P b (str s) h = h
within_core P b (local k T) h = h

value_over : (P : Name → Type 0) (k : Kind) → KindOver P k → IfOver P (value_of k)
value_over P (a_def h v) o = o
value_over P (a_thm v) o = o
value_over P an_axiom o = tt
value_over P (an_opaque v) o = tt
value_over P a_quot o = tt
value_over P (a_type b i) o = tt
value_over P (a_ctor b i c) o = tt
value_over P (a_rec r) o = tt

within_unfolded : (P : Name → Type 0) (g : Entry) (h c : Tree) (o : Option Tree) → Over P c → IfOver P o → Within P (unfolded g h c o) (Over P)
within_unfolded P g (const f ls) c (Some v) oc ov =
    within_bind P (with_levels g ls v) (λ u. asked (whnf (apply u (args c)))) (Over P) (Over P) (within_with_levels P g ls v ov)
    (λ u ou. (over_apply P u (args c) ou (over_args P c oc), λ x ox. ox))
within_unfolded P g _ c _ oc ov = oc

within_stepped : (P : Name → Type 0) (o : Option Tree) (next : Program Tree) → IfOver P o → Within P next (Over P) → Within P (stepped o next) (Over P)
within_stepped P (Some r) next o h = o
within_stepped P None next o h = h

within_headed : (P : Name → Type 0) → HasBuiltins P → (c h : Tree) → Over P c → Over P h → Within P (whnf_headed c h) (Over P)
within_headed P b c (const f ls) oc oh = (
  oh,
  λ g o. within_bind P (literal_step c f ls g) (λ r. stepped r (unfolded g (const f ls) c (value_of g.kind))) (IfOver P) (Over P) (within_literal_step P b c f ls g oc)
      (λ r or. within_stepped P r (unfolded g (const f ls) c (value_of g.kind)) or (within_unfolded P g (const f ls) c (value_of g.kind) oc (value_over P g.kind o.1))),
)
within_headed P b c _ oc oh = oc

pub within_whnf : (P : Name → Type 0) → HasBuiltins P → (e : Tree) → Over P e → Within P (whnf_steps e) (Over P)
within_whnf P b e h = (h, λ c oc. within_headed P b c (head c) oc (over_head P c oc))
