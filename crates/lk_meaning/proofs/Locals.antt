-- What has a rigid constant at its head does not equal what has a Local there.
use Rattle.std.proofs.Common.{ℕ, suc, List, [], ◌∷◌, ◌++◌, subst}
use Rattle.lk_tree.specs.Tree.{Name, Tree, var, sort, const, app, lam, pi, let_in, proj, lit, wide, str, local}
use Rattle.lk_tree.specs.Spine.{apply}
use Rattle.lk_tree.specs.Bind.{open_at}
use Rattle.lk_rulebook.specs.Place.{Place}
use Rattle.lk_rulebook.specs.Names.{named, op_name}
use Rattle.lk_rulebook.specs.Rules.{HasType, t_sort, t_local, t_const, t_app, t_lam, t_pi, t_let, t_lit, t_str, t_proj, Reduces, r_refl, r_trans, r_head, r_beta, r_zeta, r_delta, r_proj, r_major, r_iota, r_k, r_struct, r_quot_lift, r_quot_ind, r_op, IsDefEq, e_refl, e_reduce, e_sort, e_const, e_app, e_lam, e_pi, e_proj, e_eta_left, e_eta_right, e_struct_left, e_struct_right, e_unit, e_proof, e_zero_left, e_zero_right, e_succ_left, e_succ_right, e_str_left, e_str_right}
use Rattle.lk_meaning.specs.Rigid.{Heads, HeadsLocal, IsDataType, IsRigid}
use Rattle.lk_meaning.proofs.Rigid.{heads_open, heads_stay, heads_typed, heads_no_prop, data_at, data_open, data_from, data_stays, data_no_proposition, no_unit_like, struct_head}

pub local_head : (k : ℕ) (T h : Tree) (xs : List Tree) → HeadsLocal k T (apply h xs) → HeadsLocal k T h
local_head k T h [] f = f
local_head k T h (a ∷ xs) f = local_head k T (app h a) xs f

local_open : (k : ℕ) (T : Tree) (d : ℕ) (v b : Tree) → HeadsLocal k T b → HeadsLocal k T (open_at d v b)
unfolding open_at
local_open k T d v (app f a) h = local_open k T d v f h
local_open k T d v (lam A b) h = local_open k T (suc d) v b h
local_open k T d v (local j U) h = h
local_open k T d v (var i) h = absurd h
local_open k T d v (sort l) h = absurd h
local_open k T d v (const c ms) h = absurd h
local_open k T d v (pi A B) h = absurd h
local_open k T d v (let_in A a b) h = absurd h
local_open k T d v (proj S i s) h = absurd h
local_open k T d v (lit n) h = absurd h
local_open k T d v wide h = absurd h
local_open k T d v (str s) h = absurd h

pub local_stays : {w : Place} (k : ℕ) (T : Tree) {a b : Tree} → Reduces w a b → HeadsLocal k T a → HeadsLocal k T b
local_stays k T (r_refl f) h = h
local_stays k T (r_trans p q) h = local_stays k T q (local_stays k T p h)
local_stays k T (r_head p f) h = local_stays k T p h
local_stays k T (r_beta {b = b} {a = a} f) h = local_open k T 0 a b h
local_stays k T (r_zeta f) h = absurd h
local_stays k T (r_delta g y f) h = absurd h
local_stays k T (r_proj c r y i f) h = absurd h
local_stays k T (r_major R r y) h = absurd (local_head k T (const R.name R.levels) R.front h)
local_stays k T (r_iota R c i f g) h = absurd (local_head k T (const R.name R.levels) R.front h)
local_stays k T (r_k R j he hr hd q) h = absurd (local_head k T (const R.name R.levels) R.front h)
local_stays k T (r_struct R t i x r p) h = absurd (local_head k T (const R.name R.levels) R.front h)
local_stays k T (r_quot_lift ls ks q m f e) h = absurd h
local_stays k T (r_quot_ind ls ks q m f e) h = absurd h
local_stays k T (r_op op es ns r o n l v y) h = absurd (local_head k T (named (op_name op)) es h)

not_both : (c : Name) (k : ℕ) (T a : Tree) → Heads c a → HeadsLocal k T a → ⊥
not_both c k T (app f a) h n = not_both c k T f h n
not_both c k T (lam A b) h n = not_both c k T b h n
not_both c k T (var i) h n = absurd n
not_both c k T (sort l) h n = absurd n
not_both c k T (const d ms) h n = absurd n
not_both c k T (pi A B) h n = absurd n
not_both c k T (let_in A v b) h n = absurd n
not_both c k T (proj S i s) h n = absurd n
not_both c k T (lit m) h n = absurd n
not_both c k T wide h n = absurd n
not_both c k T (str s) h n = absurd n
not_both c k T (local j U) h n = absurd h

pub rigid_not_local : {w : Place} {c : Name} (k : ℕ) (T : Tree) {a b : Tree} → IsRigid w c → IsDefEq w a b → Heads c a → HeadsLocal k T b → ⊥
rigid_not_local {c = c} k T s (e_refl {a = a} x) h n = not_both c k T a h n
rigid_not_local k T s (e_reduce p q e) h n = rigid_not_local k T s e (heads_stay s p h) (local_stays k T q n)
rigid_not_local k T s (e_const x) h n = absurd n
rigid_not_local k T s (e_app u v e f) h n = rigid_not_local k T s e h n
rigid_not_local {c = c} k T s (e_lam {A = A} {b = b} {b' = b'} {k = m} fresh e f) h n =
    rigid_not_local k T s f (heads_open c 0 (local m A) b h) (local_open k T 0 (local m A) b' n)
rigid_not_local k T s (e_eta_left v i r e) h n = rigid_not_local k T s e h n
rigid_not_local k T s (e_eta_right v i r e) h n = rigid_not_local k T s e h n
rigid_not_local k T s (e_struct_left i xs v q) h n = local_head k T (const i.structure.ctor_name i.levels) (i.params ++ xs) n
rigid_not_local k T s (e_struct_right i xs v q) h n = struct_head i xs s h
rigid_not_local k T s (e_unit i ls bs a b A B u v m ha r hb q) h n = no_unit_like i (data_at i.name ls bs (heads_typed s ha h) r)
rigid_not_local k T s (e_proof u v ha p hb q) h n = heads_no_prop s ha h p
rigid_not_local k T s e_zero_left h n = absurd n
rigid_not_local k T s e_zero_right h n = absurd n
rigid_not_local k T s (e_succ_left x e) h n = absurd n
rigid_not_local k T s (e_succ_right x e) h n = absurd n
rigid_not_local k T s (e_str_left x e) h n = absurd h
rigid_not_local k T s (e_str_right x e) h n = absurd n
rigid_not_local k T s (e_sort x) h n = absurd h
rigid_not_local k T s (e_pi fresh e f) h n = absurd h
rigid_not_local k T s (e_proj e) h n = absurd h

-- the type of what has a Local of a data type at its head is a data type
local_typed : {w : Place} (k : ℕ) (T : Tree) {e A : Tree} → IsDataType w T → HasType w e A → HeadsLocal k T e → IsDataType w A
local_typed {w} k T d (t_local f) h = subst (IsDataType w) h.1 d
local_typed {w} k T d (t_app {a = a} {F = F} {A = A} {B = B} f r x q) h =
    let i : IsDataType w F = local_typed k T d f h in
    data_open w 0 a B (subst (IsDataType w) (data_stays w F (pi A B) i r) i)
local_typed {w} k T d (t_lam {A = A} {b = b} {B = B} {k = m} fresh a f) h = data_from w 0 m A B (local_typed k T d f (local_open k T 0 (local m A) b h))
local_typed k T d t_sort h = absurd h
local_typed k T d (t_const g f) h = absurd h
local_typed k T d (t_pi fresh a f) h = absurd h
local_typed k T d (t_let a x q f) h = absurd h
local_typed k T d (t_lit x f) h = absurd h
local_typed k T d (t_str x) h = absurd h
local_typed k T d (t_proj S e r q y p v) h = absurd h

pub local_not_rigid : {w : Place} {c : Name} (k : ℕ) (T : Tree) {a b : Tree} → IsRigid w c → IsDataType w T → IsDefEq w a b → HeadsLocal k T a → Heads c b → ⊥
local_not_rigid {c = c} k T s d (e_refl {a = a} x) n h = not_both c k T a h n
local_not_rigid k T s d (e_reduce p q e) n h = local_not_rigid k T s d e (local_stays k T p n) (heads_stay s q h)
local_not_rigid k T s d (e_const x) n h = absurd n
local_not_rigid k T s d (e_app u v e f) n h = local_not_rigid k T s d e n h
local_not_rigid {c = c} k T s d (e_lam {A = A} {b = b} {b' = b'} {k = m} fresh e f) n h =
    local_not_rigid k T s d f (local_open k T 0 (local m A) b n) (heads_open c 0 (local m A) b' h)
local_not_rigid k T s d (e_eta_left v i r e) n h = local_not_rigid k T s d e n h
local_not_rigid k T s d (e_eta_right v i r e) n h = local_not_rigid k T s d e n h
local_not_rigid k T s d (e_struct_left i xs v q) n h = struct_head i xs s h
local_not_rigid k T s d (e_struct_right i xs v q) n h = local_head k T (const i.structure.ctor_name i.levels) (i.params ++ xs) n
local_not_rigid k T s d (e_unit i ls bs a b A B u v m ha r hb q) n h = no_unit_like i (data_at i.name ls bs (local_typed k T d ha n) r)
local_not_rigid k T s d (e_proof u v ha p hb q) n h = data_no_proposition p (local_typed k T d ha n)
local_not_rigid k T s d e_zero_left n h = absurd n
local_not_rigid k T s d e_zero_right n h = absurd n
local_not_rigid k T s d (e_succ_left x e) n h = absurd n
local_not_rigid k T s d (e_succ_right x e) n h = absurd n
local_not_rigid k T s d (e_str_left x e) n h = absurd n
local_not_rigid k T s d (e_str_right x e) n h = absurd h
local_not_rigid k T s d (e_sort x) n h = absurd n
local_not_rigid k T s d (e_pi fresh e f) n h = absurd n
local_not_rigid k T s d (e_proj e) n h = absurd n
