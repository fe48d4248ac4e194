-- Lines of typing are derived.
use Rattle.std.proofs.Common.{◌≡◌, nat_eq, length, List, [], ◌∷◌, sym, subst}
use Rattle.lk_tree.specs.Tree.{succ_level, imax_level, Tree, sort, const, app, lam, pi, let_in, lit, str, local}
use Rattle.lk_tree.specs.Bind.{opened}
use Rattle.lk_tree.specs.Spine.{apply}
use Rattle.lk_tree.specs.WellFormed.{IsWellFormed}
use Rattle.lk_tree.specs.Levels.{put_levels}
use Rattle.lk_rulebook.specs.Place.{Place}
use Rattle.lk_rulebook.specs.Names.{named, nat, string}
use Rattle.lk_rulebook.specs.Shapes.{HasNat, HasString}
use Rattle.lk_rulebook.specs.Rules.{HasType, t_sort, t_local, t_const, t_app, t_lam, t_pi, t_let, t_lit, t_str}
use Rattle.lk_rulebook.proofs.Scopes.{well_formed_of_type}
use Rattle.lk_questions.specs.Steps.{is_same_tree}
use Rattle.lk_questions.specs.Shapes.{nat_shape, string_shape}
use Rattle.lk_claims.proofs.Pieces.{same_tree, equal_numbers}
use Rattle.lk_claims.proofs.Shaped.{sound_nat_shape, sound_string_shape}
use Rattle.lk_rulebook.specs.Claims.{Claim, AllDerived}
use Rattle.lk_questions.specs.Tests.{found}
use Rattle.lk_written.specs.Premises.{Left, arguments_over}
use Rattle.lk_written.specs.Typing.{comes_to, type_sort, type_local, type_const, applied_type, type_app, type_lam, type_pi, type_let, type_lit, type_str}
use Rattle.lk_written_sound.proofs.Premises.{IfSome, if_bind, on_some, on_test, if_test, on_none_left, found_right, on_typing, on_typed, on_equal, on_sorted, on_pi, on_fresh, arguments_right}

-- the tree is the one that the rule comes to
pub comes_right : (T e : Tree) (js : Left) (P : Tree → Type 0) → P e → IfSome (comes_to T e js) (λ u. P T)
comes_right T e js P h = on_none_left js _ (λ u. P T) (if_test (is_same_tree T e) (P T) (λ t. let i : T ≡ e = same_tree T e t in rw i h))

pub sort_is : (w : Place) (js : Left) (e T : Tree) → IfSome (type_sort js e T) (λ u. HasType w e T)
sort_is w js (sort l) T = comes_right T (sort (succ_level l)) js (λ T. HasType w (sort l) T) t_sort
sort_is w js _ T = tt

pub local_is : (w : Place) (js : Left) (e T : Tree) → IsWellFormed e → IfSome (type_local js e T) (λ u. HasType w e T)
local_is w js (local k A) T f = comes_right T A js (λ T. HasType w (local k A) T) (t_local f)
local_is w js _ T f = tt

-- the same where T is closed and well scoped
pub comes_fine : (T e : Tree) (js : Left) (P : Tree → Type 0) → IsWellFormed T → (IsWellFormed e → P e) → IfSome (comes_to T e js) (λ u. P T)
comes_fine T e js P f h = on_none_left js _ (λ u. P T) (if_test (is_same_tree T e) (P T) (λ t. let i : T ≡ e = same_tree T e t in rw i (h (rw (← i) f))))

pub const_is : (w : Place) (js : Left) (e T : Tree) → IsWellFormed T → IfSome (type_const w js e T) (λ u. HasType w e T)
const_is w js (const c ls) T f =
    on_some (w.means c) _ (λ u. HasType w (const c ls) T) (λ g m.
    on_test (nat_eq (length ls) (length g.levels)) _ (λ u. HasType w (const c ls) T) (λ n.
    comes_fine T (put_levels g.levels ls g.type) js (λ T. HasType w (const c ls) T) f (λ h. t_const (record { entry = g; given = m; levels_are = equal_numbers (length ls) (length g.levels) n }) h)))
const_is w js _ T f = tt

applied_right : (w : Place) (ps : List Claim) → AllDerived w ps → (js : Left) (f F : Tree) (xs : List Tree) → HasType w f F → IfSome (applied_type ps js F xs) (λ r. HasType w (apply f xs) r.0)
applied_right w ps d js f F [] h = h
applied_right w ps d js f F (x ∷ xs) h =
    let Q : Tree × Left → Type 0 = λ r. HasType w (apply (app f x) xs) r.0 in
    on_pi w ps d js F _ Q (well_formed_of_type h).1 (λ p hp.
    on_typed w ps d p.1 x _ Q (λ X hX.
    on_equal w ps d X.1 X.0 p.0.0 (well_formed_of_type hX).1 _ Q (λ r q.
    applied_right w ps d r (app f x) (opened p.0.1 x) xs (t_app h hp hX q))))

pub app_is : (w : Place) (ps : List Claim) → AllDerived w ps → (js : Left) (e T : Tree) → IfSome (type_app ps js e T) (λ u. HasType w e T)
app_is w ps d js e T =
    let Q : Unit {0} → Type 0 = λ u. HasType w e T in
    on_typing w ps d js _ Q (λ f hf.
    if_bind (arguments_over f.left e []) _ (λ xs. e ≡ apply f.left xs) Q (arguments_right f.left e []) (λ xs i.
    if_bind (applied_type ps f.after f.right xs) _ (λ F. HasType w (apply f.left xs) F.0) Q (applied_right w ps d f.after f.left f.right xs hf) (λ F hF.
    comes_right T F.0 F.1 (λ T. HasType w e T) (subst (λ z. HasType w z F.0) (sym i) hF))))

pub lam_is : (w : Place) (ps : List Claim) → AllDerived w ps → (js : Left) (x e T : Tree) → IfSome (type_lam ps js x e T) (λ u. HasType w e T)
lam_is w ps d js x (lam A b) (pi C B) =
    let G : Type 0 = HasType w (lam A b) (pi C B) in
    on_test (is_same_tree C A) _ (λ u. G) (λ t. let i : C ≡ A = same_tree C A t in
    on_fresh A (lam A b ∷ pi A B ∷ []) x _ (λ u. G) (λ k fresh e.
    on_sorted w ps d js A _ (λ u. G) (λ l hl.
    on_typed w ps d l.1 (opened b (local k A)) _ (λ u. G) (λ T hT.
    comes_by T.0 (opened B (local k A)) T.1 G (λ q. rw i (t_lam {B = B} {k = k} fresh hl (rw (← q) hT)))))))
  where
    comes_by : (T e : Tree) (js : Left) (P : Type 0) → (T ≡ e → P) → IfSome (comes_to T e js) (λ u. P)
    comes_by T e js P h = on_none_left js _ (λ u. P) (if_test (is_same_tree T e) P (λ t. h (same_tree T e t)))
lam_is w ps d js x _ _ = tt

pub pi_is : (w : Place) (ps : List Claim) → AllDerived w ps → (js : Left) (x e T : Tree) → IfSome (type_pi ps js x e T) (λ u. HasType w e T)
pi_is w ps d js x (pi A B) T =
    on_fresh A (pi A B ∷ []) x _ (λ u. HasType w (pi A B) T) (λ k fresh e.
    on_sorted w ps d js A _ (λ u. HasType w (pi A B) T) (λ u hu.
    on_sorted w ps d u.1 (opened B (local k A)) _ (λ u. HasType w (pi A B) T) (λ v hv.
    comes_right T (sort (imax_level u.0 v.0)) v.1 (λ T. HasType w (pi A B) T) (t_pi fresh hu hv))))
pi_is w ps d js x _ T = tt

pub let_is : (w : Place) (ps : List Claim) → AllDerived w ps → (js : Left) (e T : Tree) → IfSome (type_let ps js e T) (λ u. HasType w e T)
let_is w ps d js (let_in A v b) T =
    on_sorted w ps d js A _ (λ u. HasType w (let_in A v b) T) (λ l hl.
    on_typed w ps d l.1 v _ (λ u. HasType w (let_in A v b) T) (λ V hV.
    on_equal w ps d V.1 V.0 A (well_formed_of_type hV).1 _ (λ u. HasType w (let_in A v b) T) (λ r q.
    on_typed w ps d r (opened b v) _ (λ u. HasType w (let_in A v b) T) (λ B hB.
    comes_right T B.0 B.1 (λ T. HasType w (let_in A v b) T) (t_let hl hV q hB)))))
let_is w ps d js _ T = tt

pub lit_is : (w : Place) (js : Left) (e T : Tree) → IsWellFormed e → IfSome (type_lit w js e T) (λ u. HasType w e T)
lit_is w js (lit n) T f = if_bind (found w nat_shape) _ (λ u. HasNat w) (λ u. HasType w (lit n) T) (found_right w nat_shape (λ u. HasNat w) (sound_nat_shape w))
    (λ u h. comes_right T (named nat) js (λ T. HasType w (lit n) T) (t_lit h f))
lit_is w js _ T f = tt

pub str_is : (w : Place) (js : Left) (e T : Tree) → IfSome (type_str w js e T) (λ u. HasType w e T)
str_is w js (str s) T = if_bind (found w string_shape) _ (λ u. HasString w) (λ u. HasType w (str s) T) (found_right w string_shape (λ u. HasString w) (sound_string_shape w))
    (λ u h. comes_right T (named string) js (λ T. HasType w (str s) T) (t_str h))
str_is w js _ T = tt
