-- Lines of reduction are derived: the steps that no recursor makes.
use Rattle.std.proofs.Common.{ℕ, suc, ◌≡◌, ◌+◌, true, ◌&&◌, nat_eq, length, List, [], ◌∷◌, Some, refl, sym, subst}
use Rattle.std.specs.Prelude.{slice_get}
use Rattle.lk_tree.specs.Tree.{Name, Level, Tree, const, app, lam, let_in, proj}
use Rattle.lk_tree.specs.Bind.{opened}
use Rattle.lk_tree.specs.Levels.{put_levels}
use Rattle.lk_tree.specs.Spine.{apply, head, args}
use Rattle.lk_tree.specs.WellFormed.{IsWellFormed, AllWellFormed}
use Rattle.lk_tree.proofs.Spines.{well_formed_of_apply}
use Rattle.lk_tree.proofs.Within.{apply_head_args}
use Rattle.lk_rulebook.specs.Place.{Place, Entry, Kind, Block, BlockType, Ctor, a_ctor}
use Rattle.lk_rulebook.specs.Names.{quot_mk, quot_lift, quot_ind}
use Rattle.lk_tree.specs.Mentions.{same_name}
use Rattle.lk_rulebook.specs.Structures.{CtorApp}
use Rattle.lk_rulebook.specs.Literals.{ReadsText}
use Rattle.lk_rulebook.specs.Quotients.{IsQuot}
use Rattle.lk_rulebook.specs.Rules.{IsGivenAt, Reduces, r_refl, r_trans, r_head, r_beta, r_zeta, r_delta, r_proj, r_quot_lift, r_quot_ind}
use Rattle.lk_rulebook.proofs.Scopes.{well_formed_of_reduct}
use Rattle.lk_questions.specs.Core.{lambdas, beta}
use Rattle.lk_questions.specs.Steps.{is_same_tree, value_of}
use Rattle.lk_questions.specs.Strings.{text_to_ctor}
use Rattle.lk_questions.specs.Quotients.{by_quot}
use Rattle.lk_claims.proofs.Pieces.{same_tree, halves, equal_numbers, has_value, same_name_right}
use Rattle.lk_claims.proofs.Facts.{quot_kind}
use Rattle.lk_claims.proofs.Readings.{sound_text_to_ctor}
use Rattle.lk_rulebook.specs.Claims.{Claim, Derived, AllDerived}
use Rattle.lk_questions.specs.Tests.{found}
use Rattle.lk_written.specs.Premises.{Left, arguments_over}
use Rattle.lk_written.specs.Reducing.{red_chain, red_head, is_applied_lam, red_beta, opened_let, red_zeta, red_delta, the_ctor, red_field, is_quot, mk_of, red_quot, red_lift, red_ind}
use Rattle.lk_written_sound.proofs.Premises.{IfSome, Each, each_derived, if_bind, on_some, on_test, if_test, found_right, on_reduction, on_reduced, arguments_right}
use Rattle.lk_written_sound.proofs.Typings.{comes_right, comes_fine}
use Rattle.lk_written_sound.proofs.Projs.{on_const, spine_is}

pub chain_is : (w : Place) (ps : List Claim) → AllDerived w ps → (js : Left) (a b : Tree) → IfSome (red_chain ps js a b) (λ u. Reduces w a b)
chain_is w ps d js a b =
    let Q : Unit {0} → Type 0 = λ u. Reduces w a b in
    let each : Each (Derived w) ps = each_derived w ps d in
    on_reduction (Derived w) ps each js _ Q (λ c hc.
    on_reduction (Derived w) ps each c.after _ Q (λ e he.
    on_test (is_same_tree c.left a && is_same_tree e.left c.right) _ Q (λ t.
    let x : (is_same_tree c.left a ≡ true) × (is_same_tree e.left c.right ≡ true) = halves (is_same_tree c.left a) (is_same_tree e.left c.right) t in
    let first : Reduces w a c.right = subst (λ z. Reduces w z c.right) (same_tree c.left a x.0) hc in
    let second : Reduces w c.right e.right = subst (λ z. Reduces w z e.right) (same_tree e.left c.right x.1) he in
    comes_right b e.right e.after (λ b. Reduces w a b) (r_trans first second))))

-- a step of the head goes on under arguments
pub under : (w : Place) (f g : Tree) (xs : List Tree) → AllWellFormed xs → Reduces w f g → Reduces w (apply f xs) (apply g xs)
under w f g [] fx h = h
under w f g (x ∷ xs) fx h = under w (app f x) (app g x) xs fx.1 (r_head h fx.0)

pub head_is : (w : Place) (ps : List Claim) → AllDerived w ps → (js : Left) (a b : Tree) → IsWellFormed a → IfSome (red_head ps js a b) (λ u. Reduces w a b)
head_is w ps d js a b fa =
    let Q : Unit {0} → Type 0 = λ u. Reduces w a b in
    on_reduction (Derived w) ps (each_derived w ps d) js _ Q (λ f hf.
    if_bind (arguments_over f.left a []) _ (λ xs. a ≡ apply f.left xs) Q (arguments_right f.left a []) (λ xs i.
    let fx : AllWellFormed xs = (well_formed_of_apply f.left xs (subst IsWellFormed i fa)).1 in
    comes_right b (apply f.right xs) f.after (λ b. Reduces w a b) (subst (λ z. Reduces w z (apply f.right xs)) (sym i) (under w f.left f.right xs fx hf))))

-- each lambda is opened by beta, under the arguments behind
beta_right : (w : Place) (n : ℕ) (h : Tree) (xs : List Tree) → IsWellFormed (apply h xs) → Reduces w (apply h xs) (beta n h xs)
beta_right w (suc n) (lam A b) (x ∷ xs) f =
    let g : IsWellFormed (app (lam A b) x) × AllWellFormed xs = well_formed_of_apply (app (lam A b) x) xs f in
    let step : Reduces w (apply (app (lam A b) x) xs) (apply (opened b x) xs) = under w (app (lam A b) x) (opened b x) xs g.1 (r_beta g.0) in
    r_trans step (beta_right w n (opened b x) xs (well_formed_of_reduct step).1)
beta_right w _ h xs f = r_refl f

pub beta_is : (w : Place) (js : Left) (a b : Tree) → IsWellFormed a → IfSome (red_beta js a b) (λ u. Reduces w a b)
beta_is w js a b f =
    let Q : Unit {0} → Type 0 = λ u. Reduces w a b in
    let i : apply (head a) (args a) ≡ a = apply_head_args a in
    on_test (is_applied_lam (head a) (args a)) _ Q (λ t.
    comes_right b (beta (lambdas (head a)) (head a) (args a)) js (λ b. Reduces w a b)
    (subst (λ z. Reduces w z (beta (lambdas (head a)) (head a) (args a))) i (beta_right w (lambdas (head a)) (head a) (args a) (subst IsWellFormed (sym i) f))))

-- a step of a's head is one of a
of_head : (w : Place) (a h : Tree) → IsWellFormed a → (IsWellFormed (head a) → Reduces w (head a) h) → Reduces w a (apply h (args a))
of_head w a h f k =
    let i : apply (head a) (args a) ≡ a = apply_head_args a in
    let g : IsWellFormed (head a) × AllWellFormed (args a) = well_formed_of_apply (head a) (args a) (subst IsWellFormed (sym i) f) in
    subst (λ z. Reduces w z (apply h (args a))) i (under w (head a) h (args a) g.1 (k g.0))

let_right : (w : Place) (h : Tree) → IfSome (opened_let h) (λ r. IsWellFormed h → Reduces w h r)
let_right w (let_in A v b) = λ f. r_zeta f
let_right w _ = tt

pub zeta_is : (w : Place) (js : Left) (a b : Tree) → IsWellFormed a → IfSome (red_zeta js a b) (λ u. Reduces w a b)
zeta_is w js a b f =
    if_bind (opened_let (head a)) _ (λ r. IsWellFormed (head a) → Reduces w (head a) r) (λ u. Reduces w a b) (let_right w (head a)) (λ h k.
    comes_right b (apply h (args a)) js (λ b. Reduces w a b) (of_head w a h f k))

pub delta_is : (w : Place) (js : Left) (a b : Tree) → IsWellFormed a → IsWellFormed b → IfSome (red_delta w js a b) (λ u. Reduces w a b)
delta_is w js a b fa fb =
    let Q : Unit {0} → Type 0 = λ u. Reduces w a b in
    on_const (head a) _ Q (λ c e.
    on_some (w.means c.0) _ Q (λ g m.
    on_some (value_of g.kind) _ Q (λ v k.
    on_test (nat_eq (length c.1) (length g.levels)) _ Q (λ n.
    let given : IsGivenAt w c.0 c.1 = record { entry = g; given = m; levels_are = equal_numbers (length c.1) (length g.levels) n } in
    let u : Tree = put_levels g.levels c.1 v in
    comes_fine b (apply u (args a)) js (λ b. Reduces w a b) fb (λ h.
    of_head w a u fa (λ fh. subst (λ z. Reduces w z u) (sym e) (r_delta given (has_value g g.kind v refl k) (well_formed_of_apply u (args a) h).0)))))))

pub ctor_right : (k : Kind) → IfSome (the_ctor k) (λ c. k ≡ a_ctor c.0 c.1 c.2)
ctor_right (a_ctor block ind c) = refl
ctor_right _ = tt

field_made : (w : Place) (S : Name) (i : ℕ) (s m x y : Tree) (c : Name) (ks : List Level) (xs : List Tree) → x ≡ apply (const c ks) xs → Reduces w s m → ReadsText w m x → (g : Entry) → w.means c ≡ Some g →
    (block : Block) (ind : BlockType) (ctor : Ctor) → g.kind ≡ a_ctor block ind ctor → ind.name ≡ S → slice_get xs (ctor.parameters + i) ≡ Some y → IsWellFormed y → Reduces w (proj S i s) y
field_made w S i s m x y c ks xs e h rd g n block ind ctor k p at f =
    let applied : CtorApp w = record { name = c; levels = ks; args = xs; entry = g; block = block; ind = ind; ctor = ctor; given = n; kind = k } in
    subst (λ J. Reduces w (proj J i s) y) p (r_proj applied h (rw e at rd) at f)

pub field_is : (w : Place) (ps : List Claim) → AllDerived w ps → (js : Left) (a b : Tree) → IsWellFormed a → IsWellFormed b → IfSome (red_field w ps js a b) (λ u. Reduces w a b)
field_is w ps d js (proj S i s) b fa f =
    let G : Type 0 = Reduces w (proj S i s) b in
    on_reduced w ps d js s fa _ (λ u. G) (λ m hm.
    if_bind (found w (text_to_ctor m.0)) _ (λ x. ReadsText w m.0 x) (λ u. G) (found_right w (text_to_ctor m.0) (λ x. ReadsText w m.0 x) (sound_text_to_ctor w m.0)) (λ x rd.
    on_const (head x) _ (λ u. G) (λ h eh.
    on_some (w.means h.0) _ (λ u. G) (λ g n.
    if_bind (the_ctor g.kind) _ (λ c. g.kind ≡ a_ctor c.0 c.1 c.2) (λ u. G) (ctor_right g.kind) (λ c k.
    on_test (same_name c.1.name S) _ (λ u. G) (λ p.
    on_some (slice_get (args x) (c.2.parameters + i)) _ (λ u. G) (λ y at.
    comes_fine b y m.1 (λ b. Reduces w (proj S i s) b) f (λ fy.
    field_made w S i s m.0 x y h.0 h.1 (args x) (spine_is x h.0 h.0 h.1 eh refl) hm rd g n c.0 c.1 c.2 k (same_name_right c.1.name S p) at fy))))))))
field_is w ps d js _ b fa f = tt

pub quot_right : (w : Place) (c : Name) → IfSome (is_quot w c) (λ u. IsQuot w c)
quot_right w c = on_some (w.means c) _ (λ u. IsQuot w c) (λ g m. if_test (by_quot g.kind) (IsQuot w c) (λ h. record { entry = g; given = m; kind = quot_kind g.kind h }))

-- m is Quot.mk A r a
record IsMk (m a : Tree) : Type 0 where
  levels : List Level
  type : Tree
  relation : Tree
  is : m ≡ apply (const quot_mk levels) (type ∷ relation ∷ a ∷ [])

mk_at : (m h : Tree) (xs : List Tree) → m ≡ apply h xs → IfSome (mk_of h xs) (λ a. IsMk m a)
mk_at m (const c ks) (A ∷ r ∷ a ∷ []) e = on_test (same_name c quot_mk) (λ u. Some a) (λ a. IsMk m a) (λ t. let i : c ≡ quot_mk = same_name_right c quot_mk t in record { levels = ks; type = A; relation = r; is = rw i at e })
mk_at m _ _ e = tt

pub by_mk : (w : Place) (ps : List Claim) → AllDerived w ps → (js : Left) (c q : Name) (f m b : Tree) → IsWellFormed m → (P : Tree → Type 0) →
    (c ≡ q → IsQuot w q → IsQuot w quot_mk → (ks : List Level) (A r a : Tree) → Reduces w m (apply (const quot_mk ks) (A ∷ r ∷ a ∷ [])) → P (app f a)) → IfSome (red_quot w ps js c q f m b) (λ u. P b)
by_mk w ps d js c q f m b fm P h =
    on_test (same_name c q) _ (λ u. P b) (λ t.
    if_bind (is_quot w q) _ (λ u. IsQuot w q) (λ u. P b) (quot_right w q) (λ u iq.
    if_bind (is_quot w quot_mk) _ (λ u. IsQuot w quot_mk) (λ u. P b) (quot_right w quot_mk) (λ u im.
    on_reduced w ps d js m fm _ (λ u. P b) (λ n hn.
    if_bind (mk_of (head n.0) (args n.0)) _ (λ a. IsMk n.0 a) (λ u. P b) (mk_at n.0 (head n.0) (args n.0) (sym (apply_head_args n.0))) (λ a k.
    comes_right b (app f a) n.1 P (h (same_name_right c q t) iq im k.levels k.type k.relation a (rw k.is at hn)))))))

pub lift_is : (w : Place) (ps : List Claim) → AllDerived w ps → (js : Left) (a b : Tree) → IsWellFormed a → IfSome (red_lift w ps js a b) (λ u. Reduces w a b)
lift_is w ps d js (app (app (app (app (app (app (const c ls) A) r) B) f) h) m) b fa =
    by_mk w ps d js c quot_lift f m b fa.1 (λ b. Reduces w (app (app (app (app (app (app (const c ls) A) r) B) f) h) m) b)
    (λ e iq im ks A' r' a hm. rw e (r_quot_lift ls ks iq im (fa.0.0.0.0.0.1, (fa.0.0.0.0.1, (fa.0.0.0.1, (fa.0.0.1, (fa.0.1, tt))))) hm))
lift_is w ps d js _ b fa = tt

pub ind_is : (w : Place) (ps : List Claim) → AllDerived w ps → (js : Left) (a b : Tree) → IsWellFormed a → IfSome (red_ind w ps js a b) (λ u. Reduces w a b)
ind_is w ps d js (app (app (app (app (app (const c ls) A) r) B) h) m) b fa =
    by_mk w ps d js c quot_ind h m b fa.1 (λ b. Reduces w (app (app (app (app (app (const c ls) A) r) B) h) m) b)
    (λ e iq im ks A' r' a hm. rw e (r_quot_ind ls ks iq im (fa.0.0.0.0.1, (fa.0.0.0.1, (fa.0.0.1, (fa.0.1, tt)))) hm))
ind_is w ps d js _ b fa = tt
