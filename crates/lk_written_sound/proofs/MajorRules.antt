-- What rules at recursors, projections of constructors and quotients state can be written.
use Rattle.std.proofs.Common.{ℕ, suc, ◌≡◌, ◌+◌, inl, inr, Bool, true, ◌&&◌, nat_eq, length, take, drop, List, [], ◌∷◌, ◌++◌, Option, Some, None, refl, subst, ◌∙◌, sym, ap, arith, nat_le, ◌≤◌, length-append}
use Rattle.std.proofs.lemmas.Bool.Decides.{nat_tests}
use Rattle.std.specs.Prelude.{slice_get}
use Rattle.lk_tree.specs.Tree.{Name, Level, Tree, const, app, proj}
use Rattle.lk_tree.specs.Levels.{put_levels}
use Rattle.lk_tree.specs.Spine.{apply, head, args}
use Rattle.lk_tree.specs.WellFormed.{IsWellFormed, AllWellFormed}
use Rattle.lk_tree.proofs.Scans.{and_true}
use Rattle.lk_rulebook.specs.Place.{Place, Entry, Recursor, RecRule, a_rec}
use Rattle.lk_rulebook.specs.Names.{quot_mk, quot_lift, quot_ind}
use Rattle.lk_tree.specs.Mentions.{same_name}
use Rattle.lk_rulebook.specs.Structures.{before_major, before_indices, IsRuleOf, RecApp, on_major, CtorApp, ctor_app, HasRule, rule_result, KMajor, k_type}
use Rattle.lk_rulebook.specs.Quotients.{IsQuot}
use Rattle.lk_rulebook.specs.Literals.{Reads, ReadsText}
use Rattle.lk_rulebook.proofs.Texts.{read_fine}
use Rattle.lk_questions.specs.Steps.{is_same_tree}
use Rattle.lk_questions.specs.Strings.{text_to_ctor}
use Rattle.lk_rulebook.specs.Claims.{Claim, reduces, types, equals}
use Rattle.lk_written.specs.Line.{major_rule, iota_rule, lift_rule, ind_rule, field_rule, k_rule}
use Rattle.lk_questions.specs.Tests.{passes, found}
use Rattle.lk_written.specs.Premises.{Left, as_const}
use Rattle.lk_written.specs.Typing.{comes_to}
use Rattle.lk_questions.specs.Tests.{reads}
use Rattle.lk_written.specs.Reducing.{the_ctor, the_recursor, major_of, red_iota, is_quot, mk_of, red_quot, red_field, the_rule, red_k}
use Rattle.lk_rulebook.specs.Claims.{IsShaped}
use Rattle.lk_written.specs.Written.{Stands, CanWrite}
use Rattle.lk_claims.proofs.Facts.{same_self, some_on}
use Rattle.lk_written_sound.proofs.Writings.{are_equal, next, last_reduct, go_on, go_test, comes_itself, some_test, with_reduct, with_equal, typed_next, go_typed, go_reduced, go_equal}
use Rattle.lk_written_sound.proofs.EqualRules.{same_self_name}

pub head_applied : (h : Tree) (xs : List Tree) → head (apply h xs) ≡ head h
unfolding head
head_applied h [] = refl
head_applied h (x ∷ xs) = head_applied (app h x) xs

pushed : (ys : List Tree) (x : Tree) (xs : List Tree) → (ys ++ (x ∷ [])) ++ xs ≡ ys ++ (x ∷ xs)
pushed [] x xs = refl
pushed (y ∷ ys) x xs = ap (λ zs. y ∷ zs) (pushed ys x xs)

pub args_applied : (h : Tree) (xs : List Tree) → args (apply h xs) ≡ args h ++ xs
unfolding args
args_applied h [] = no_more (args h)
  where
    no_more : (ys : List Tree) → ys ≡ ys ++ []
    no_more [] = refl
    no_more (y ∷ ys) = ap (λ zs. y ∷ zs) (no_more ys)
args_applied h (x ∷ xs) = args_applied (app h x) xs ∙ pushed (args h) x xs

pub const_head : (c : Name) (ls : List Level) (xs : List Tree) → head (apply (const c ls) xs) ≡ const c ls
unfolding head
const_head c ls xs = head_applied (const c ls) xs

pub const_args : (c : Name) (ls : List Level) (xs : List Tree) → args (apply (const c ls) xs) ≡ xs
unfolding args
const_args c ls xs = args_applied (const c ls) xs

major_at : (w : Place) (R : Name) (ls : List Level) (g : Entry) (r : Recursor) → w.means R ≡ Some g → g.kind ≡ a_rec r → (h : Tree) (n : ℕ) → h ≡ const R ls → n ≡ before_major r → major_of w h n ≡ Some (R, ls, g, r)
major_at w R ls g r m k h n e c =
    some_on (as_const h) (R, ls) _ (R, ls, g, r) (rw e refl)
    (some_on (w.means R) g _ (R, ls, g, r) m
    (some_on (the_recursor g.kind) r _ (R, ls, g, r) (rw k refl)
    (some_test (nat_eq n (before_major r)) _ (R, ls, g, r) (are_equal n (before_major r) c) refl)))

pub major_there : (w : Place) (R : Name) (ls : List Level) (front : List Tree) (g : Entry) (r : Recursor) → w.means R ≡ Some g → g.kind ≡ a_rec r → length front ≡ before_major r →
    major_of w (head (apply (const R ls) front)) (length (args (apply (const R ls) front))) ≡ Some (R, ls, g, r)
major_there w R ls front g r m k c = major_at w R ls g r m k (head (apply (const R ls) front)) (length (args (apply (const R ls) front))) (const_head R ls front) (ap (length {A = Tree}) (const_args R ls front) ∙ c)

pub passed_some : (o : Option (Unit {0})) → passes o ≡ true → o ≡ Some tt
passed_some (Some tt) h = refl
passed_some None h = absurd cc

-- where the reading passes its test
pub can_major : (w : Place) (R : RecApp w) (e m n : Tree) → CanWrite w (reduces e m) → Reads w m n → passes (reads w m n) ≡ true → CanWrite w (reduces (on_major R e) (on_major R n))
can_major w R e m n he rd t =
    let F : Tree = apply (const R.name R.levels) R.front in
    let h : IsShaped (reduces (app F e) (app F n)) = ((R.fine, he.shaped.0), (R.fine, read_fine rd he.shaped.1), λ z. absurd z) in
    record {
      shaped = h;
      written = λ ps.
          next w ps (reduces e m) (reduces (app F e) (app F n)) (he.written ps) (λ qs k j x.
          last_reduct w qs major_rule (app F e) (app F n) (with_reduct e m j []) h
          (go_on (major_of w (head F) (length (args F))) (R.name, R.levels, R.entry, R.recursor) _ (major_there w R.name R.levels R.front R.entry R.recursor R.given R.kind R.front_is)
          (go_test (is_same_tree F F) _ (same_self F)
          (go_reduced qs j [] e m _ x (λ y. refl)
          (go_on (reads w m n) tt _ (passed_some (reads w m n) t) refl)))));
    }

rule_place : (rs : List RecRule) (r : RecRule) → IsRuleOf r rs → (n : ℕ) × (slice_get rs n ≡ Some r)
rule_place [] r h = absurd h
rule_place (s ∷ rs) r (inl e) = (0, ap (λ x. Some x) e)
rule_place (s ∷ rs) r (inr h) = let x : (n : ℕ) × (slice_get rs n ≡ Some r) = rule_place rs r h in (suc x.0, x.1)

pub iota_passes : (w : Place) (R : RecApp w) (c : CtorApp w) (h : HasRule R c) (n : ℕ) → slice_get R.recursor.rules n ≡ Some h.rule →
    (F E : Tree) → head F ≡ const R.name R.levels → args F ≡ R.front → head E ≡ const c.name c.levels → args E ≡ c.args → passes (red_iota w n [] (app F E) (rule_result R c h)) ≡ true
iota_passes w R c h n at F E hF aF hE aE =
    let value : Tree = put_levels R.entry.levels R.levels h.rule.value in
    let count : ℕ = before_indices R.recursor in
    let target : Tree = apply (apply value (take count (args F))) (drop c.ctor.parameters (args E)) in
    let same : rule_result R c h ≡ target = ap (λ ys. apply (apply value (take count ys)) (drop c.ctor.parameters c.args)) (sym aF)
    ∙ ap (λ ys. apply (apply value (take count (args F))) (drop c.ctor.parameters ys)) (sym aE) in
    let levels : Bool = nat_eq (length R.levels) (length R.entry.levels) in
    let counts : Bool = nat_eq (length (args E)) (c.ctor.parameters + h.rule.fields) in
    go_on (major_of w (head F) (length (args F))) (R.name, R.levels, R.entry, R.recursor) _
    (major_at w R.name R.levels R.entry R.recursor R.given R.kind (head F) (length (args F)) hF (ap (length {A = Tree}) aF ∙ R.front_is))
    (go_on (slice_get R.recursor.rules n) h.rule _ at
    (go_on (as_const (head E)) (c.name, c.levels) _ (rw hE refl)
    (go_on (w.means c.name) c.entry _ c.given
    (go_on (the_ctor c.entry.kind) (c.block, c.ind, c.ctor) _ (rw c.kind refl)
    (go_test ((same_name h.rule.ctor c.name && levels) && counts) _
    (and_true (same_name h.rule.ctor c.name && levels) counts
    (and_true (same_name h.rule.ctor c.name) levels (subst (λ d. same_name h.rule.ctor d ≡ true) h.for_ctor (same_self_name h.rule.ctor)) (are_equal (length R.levels) (length R.entry.levels) h.levels_are))
    (are_equal (length (args E)) (c.ctor.parameters + h.rule.fields) (ap (length {A = Tree}) aE ∙ h.args_are)))
    (subst (λ t. passes (comes_to t target []) ≡ true) (sym same) (comes_itself target)))))))

pub can_iota : (w : Place) (R : RecApp w) (c : CtorApp w) (h : HasRule R c) → IsWellFormed (ctor_app c) → IsWellFormed (rule_result R c h) → CanWrite w (reduces (on_major R (ctor_app c)) (rule_result R c h))
can_iota w R c h f g =
    let s : IsShaped (reduces (on_major R (ctor_app c)) (rule_result R c h)) = ((R.fine, f), g, λ z. absurd z) in
    let p : (n : ℕ) × (slice_get R.recursor.rules n ≡ Some h.rule) = rule_place R.recursor.rules h.rule h.is_rule in
    record {
      shaped = s;
      written = λ ps. last_reduct w ps (iota_rule p.0) (on_major R (ctor_app c)) (rule_result R c h) [] s
          (iota_passes w R c h p.0 p.1 (apply (const R.name R.levels) R.front) (ctor_app c) (const_head R.name R.levels R.front) (const_args R.name R.levels R.front) (const_head c.name c.levels c.args) (const_args c.name c.levels c.args));
    }

quot_there : (w : Place) (c : Name) → IsQuot w c → is_quot w c ≡ Some tt
quot_there w c i = some_on (w.means c) i.entry _ tt i.given (rw i.kind refl)

mk_there : (h : Tree) (ys : List Tree) (ks : List Level) (A r a : Tree) → h ≡ const quot_mk ks → ys ≡ A ∷ r ∷ a ∷ [] → mk_of h ys ≡ Some a
mk_there h ys ks A r a e i = rw (e, i) (some_test (same_name quot_mk quot_mk) _ a (same_self_name quot_mk) refl)

pub quot_passes : (w : Place) (qs : List Claim) (j : ℕ) (q : Name) (f m : Tree) (ks : List Level) (A r a : Tree) → IsQuot w q → IsQuot w quot_mk → Stands qs j (reduces m (apply (const quot_mk ks) (A ∷ r ∷ a ∷ []))) →
    passes (red_quot w qs (with_reduct m (apply (const quot_mk ks) (A ∷ r ∷ a ∷ [])) j []) q q f m (app f a)) ≡ true
quot_passes w qs j q f m ks A r a i im e =
    go_test (same_name q q) _ (same_self_name q)
    (go_on (is_quot w q) tt _ (quot_there w q i)
    (go_on (is_quot w quot_mk) tt _ (quot_there w quot_mk im)
    (go_reduced qs j [] m (apply (const quot_mk ks) (A ∷ r ∷ a ∷ [])) _ e (λ y. refl)
    (go_on (mk_of (head (apply (const quot_mk ks) (A ∷ r ∷ a ∷ []))) (args (apply (const quot_mk ks) (A ∷ r ∷ a ∷ [])))) a _
    (mk_there (head (apply (const quot_mk ks) (A ∷ r ∷ a ∷ []))) (args (apply (const quot_mk ks) (A ∷ r ∷ a ∷ []))) ks A r a (const_head quot_mk ks (A ∷ r ∷ a ∷ [])) (const_args quot_mk ks (A ∷ r ∷ a ∷ []))) (comes_itself (app f a))))))

pub can_lift : (w : Place) (ls ks : List Level) (A r B f h m A' r' a : Tree) → IsQuot w quot_lift → IsQuot w quot_mk → AllWellFormed (A ∷ r ∷ B ∷ f ∷ h ∷ []) → CanWrite w (reduces m (apply (const quot_mk ks) (A' ∷ r' ∷ a ∷ []))) →
    CanWrite w (reduces (apply (const quot_lift ls) (A ∷ r ∷ B ∷ f ∷ h ∷ m ∷ [])) (app f a))
can_lift w ls ks A r B f h m A' r' a i im ff hm =
    let s : Tree = apply (const quot_lift ls) (A ∷ r ∷ B ∷ f ∷ h ∷ m ∷ []) in
    let d : IsShaped (reduces s (app f a)) = (((((((tt, ff.0), ff.1.0), ff.1.1.0), ff.1.1.1.0), ff.1.1.1.1.0), hm.shaped.0), (ff.1.1.1.0, hm.shaped.1.1), λ z. absurd z) in
    record {
      shaped = d;
      written = λ ps.
          next w ps (reduces m (apply (const quot_mk ks) (A' ∷ r' ∷ a ∷ []))) (reduces s (app f a)) (hm.written ps) (λ qs k j e.
          last_reduct w qs lift_rule s (app f a) (with_reduct m (apply (const quot_mk ks) (A' ∷ r' ∷ a ∷ [])) j []) d (quot_passes w qs j quot_lift f m ks A' r' a i im e));
    }

pub can_ind : (w : Place) (ls ks : List Level) (A r B h m A' r' a : Tree) → IsQuot w quot_ind → IsQuot w quot_mk → AllWellFormed (A ∷ r ∷ B ∷ h ∷ []) → CanWrite w (reduces m (apply (const quot_mk ks) (A' ∷ r' ∷ a ∷ []))) →
    CanWrite w (reduces (apply (const quot_ind ls) (A ∷ r ∷ B ∷ h ∷ m ∷ [])) (app h a))
can_ind w ls ks A r B h m A' r' a i im ff hm =
    let s : Tree = apply (const quot_ind ls) (A ∷ r ∷ B ∷ h ∷ m ∷ []) in
    let d : IsShaped (reduces s (app h a)) = ((((((tt, ff.0), ff.1.0), ff.1.1.0), ff.1.1.1.0), hm.shaped.0), (ff.1.1.1.0, hm.shaped.1.1), λ z. absurd z) in
    record {
      shaped = d;
      written = λ ps.
          next w ps (reduces m (apply (const quot_mk ks) (A' ∷ r' ∷ a ∷ []))) (reduces s (app h a)) (hm.written ps) (λ qs k j e.
          last_reduct w qs ind_rule s (app h a) (with_reduct m (apply (const quot_mk ks) (A' ∷ r' ∷ a ∷ [])) j []) d (quot_passes w qs j quot_ind h m ks A' r' a i im e));
    }

pub field_passes : (w : Place) (qs : List Claim) (j : ℕ) (c : CtorApp w) (i : ℕ) (s m x M : Tree) → Stands qs j (reduces s m) →
    found w (text_to_ctor m) ≡ Some M → head M ≡ const c.name c.levels → args M ≡ c.args → slice_get c.args (c.ctor.parameters + i) ≡ Some x → passes (red_field w qs (with_reduct s m j []) (proj c.ind.name i s) x) ≡ true
field_passes w qs j c i s m x M e t hM aM at =
    go_reduced qs j [] s m _ e (λ y. refl)
    (go_on (found w (text_to_ctor m)) M _ t
    (go_on (as_const (head M)) (c.name, c.levels) _ (rw hM refl)
    (go_on (w.means c.name) c.entry _ c.given
    (go_on (the_ctor c.entry.kind) (c.block, c.ind, c.ctor) _ (rw c.kind refl)
    (go_test (same_name c.ind.name c.ind.name) _ (same_self_name c.ind.name)
    (go_on (slice_get (args M) (c.ctor.parameters + i)) x _ (ap (λ ys. slice_get ys (c.ctor.parameters + i)) aM ∙ at) (comes_itself x)))))))

-- where the text that m may be passes its test
pub can_field : (w : Place) (c : CtorApp w) (i : ℕ) (s m x : Tree) → CanWrite w (reduces s m) → ReadsText w m (ctor_app c) → found w (text_to_ctor m) ≡ Some (ctor_app c) → slice_get c.args (c.ctor.parameters + i) ≡ Some x → IsWellFormed x →
    CanWrite w (reduces (proj c.ind.name i s) x)
can_field w c i s m x hs rd t at f =
    let h : IsShaped (reduces (proj c.ind.name i s) x) = (hs.shaped.0, f, λ z. absurd z) in
    record {
      shaped = h;
      written = λ ps.
          next w ps (reduces s m) (reduces (proj c.ind.name i s) x) (hs.written ps) (λ qs kq j e.
          last_reduct w qs field_rule (proj c.ind.name i s) x (with_reduct s m j []) h (field_passes w qs j c i s m x (ctor_app c) e t (const_head c.name c.levels c.args) (const_args c.name c.levels c.args) at));
    }

-- the constructor's rule
rule_there : (rs : List RecRule) (r : RecRule) → rs ≡ r ∷ [] → the_rule rs ≡ Some r
rule_there rs r e = rw e refl

taken : (ys xs : List Tree) → take (length ys) (ys ++ xs) ≡ ys
taken [] xs = refl
taken (y ∷ ys) xs = ap (λ zs. y ∷ zs) (taken ys xs)

pub k_passes : (w : Place) (qs : List Claim) (i j m n : ℕ) (R : RecApp w) (k : KMajor R) (e T₀ D F T d : Tree) → head F ≡ const R.name R.levels → args F ≡ R.front → head T ≡ const k.ctor.ind.name k.ctor.levels → args T ≡ k.ctor.args ++ k.rest →
    d ≡ ctor_app k.ctor → slice_get qs i ≡ Some (types e T₀) → Stands qs j (reduces T₀ T) → slice_get qs m ≡ Some (types d D) → Stands qs n (equals T D) → passes (red_k w qs (i ∷ with_reduct T₀ T j (m ∷ with_equal T D n [])) (app F e) (app F d)) ≡ true
k_passes w qs i j m n R k e T₀ D F T d hF aF hT aT ed e₁ e₂ e₃ e₄ =
    let last : Left = with_equal T D n [] in
    let c : CtorApp w = k.ctor in
    let rule : RecRule = k.only.rule in
    let p : ℕ = c.ctor.parameters in
    let t : take p (args T) ≡ c.args = ap (take p) aT ∙ (ap (λ z. take z (c.args ++ k.rest)) (sym k.params_are) ∙ taken c.args k.rest) in
    let target : Tree = apply (const rule.ctor c.levels) (take p (args T)) in
    let same : d ≡ target = ed ∙ (ap (λ z. apply (const z c.levels) c.args) (sym k.only.for_ctor) ∙ ap (λ ys. apply (const rule.ctor c.levels) ys) (sym t)) in
    let given : w.means rule.ctor ≡ Some c.entry = ap w.means k.only.for_ctor ∙ c.given in
    go_on (major_of w (head F) (length (args F))) (R.name, R.levels, R.entry, R.recursor) _ (major_at w R.name R.levels R.entry R.recursor R.given R.kind (head F) (length (args F)) hF (ap (length {A = Tree}) aF ∙ R.front_is))
    (go_test (is_same_tree F F && R.recursor.k) _ (and_true (is_same_tree F F) R.recursor.k (same_self F) k.k_is)
    (go_on (the_rule R.recursor.rules) rule _ (rule_there R.recursor.rules rule k.only.one_rule)
    (go_on (w.means rule.ctor) c.entry _ given
    (go_on (the_ctor c.entry.kind) (c.block, c.ind, c.ctor) _ (rw c.kind refl)
    (go_typed qs i (with_reduct T₀ T j (m ∷ last)) e T₀ _ e₁
    (go_reduced qs j (m ∷ last) T₀ T _ e₂ (λ y. typed_next qs m last T₀ d D e₃)
    (go_on (as_const (head T)) (c.ind.name, c.levels) _ (rw hT refl)
    (go_test (same_name c.ind.name c.ind.name && nat_le p (length (args T))) _ (and_true (same_name c.ind.name c.ind.name) (nat_le p (length (args T))) (same_self_name c.ind.name)
    (enough p c.args k.rest (length (args T)) (ap (length {A = Tree}) aT) k.params_are))
    (go_test (is_same_tree d target) _ (subst (λ z. is_same_tree d z ≡ true) same (same_self d))
    (go_typed qs m last d D _ e₃
    (go_equal qs n [] T D _ e₄ refl)))))))))))
  where
    most : (a b : ℕ) → a ≤ b → nat_le a b ≡ true
    most a b h = grind (arith, nat_tests)

    enough : (p : ℕ) (bs rest : List Tree) (z : ℕ) → z ≡ length (bs ++ rest) → length bs ≡ p → nat_le p z ≡ true
    enough p bs rest z e h = most p z (omega (arith, length-append bs rest))

pub can_k : (w : Place) (R : RecApp w) (k : KMajor R) (e T₀ D : Tree) → CanWrite w (types e T₀) → CanWrite w (reduces T₀ (k_type k)) → CanWrite w (types (ctor_app k.ctor) D) → CanWrite w (equals (k_type k) D) →
    CanWrite w (reduces (on_major R e) (on_major R (ctor_app k.ctor)))
can_k w R k e T₀ D he hT hD hq =
    let F : Tree = apply (const R.name R.levels) R.front in
    let T : Tree = k_type k in
    let d : Tree = ctor_app k.ctor in
    let h : IsShaped (reduces (app F e) (app F d)) = ((R.fine, he.shaped.0), (R.fine, hD.shaped.0), λ z. absurd z) in
    let G : Claim = reduces (app F e) (app F d) in
    record {
      shaped = h;
      written = λ ps.
          next w ps (types e T₀) G (he.written ps) (λ p₁ k₁ i x.
          next w p₁ (reduces T₀ T) G (hT.written p₁) (λ p₂ k₂ j x₂.
          next w p₂ (types d D) G (hD.written p₂) (λ p₃ k₃ m x₃.
          next w p₃ (equals T D) G (hq.written p₃) (λ qs k₄ n x₄.
          last_reduct w qs k_rule (app F e) (app F d) (i ∷ with_reduct T₀ T j (m ∷ with_equal T D n [])) h
          (k_passes w qs i j m n R k e T₀ D F T d (const_head R.name R.levels R.front) (const_args R.name R.levels R.front) (const_head k.ctor.ind.name k.ctor.levels (k.ctor.args ++ k.rest)) (const_args k.ctor.ind.name k.ctor.levels (k.ctor.args ++ k.rest)) refl
          (k₄ i (types e T₀) (k₃ i (types e T₀) (k₂ i (types e T₀) x))) (k₄ j (reduces T₀ T) (k₃ j (reduces T₀ T) x₂)) (k₄ m (types d D) x₃) x₄)))));
    }
