-- Conversion does not collapse: Sorts that are equal have equal levels, Pis that are equal have equal parts, and no Sort equals a Pi.
use Rattle.std.proofs.Common.{ℕ, ◌≡◌, ◌≤◌, List, [], ◌∷◌, ◌++◌, refl, sym, subst, ◌∙◌, arith}
use Rattle.lk_tree.specs.Tree.{Name, Level, zero_level, succ_level, imax_level, Tree, sort, const, app, pi, local}
use Rattle.lk_tree.specs.Level.{SameLevel}
use Rattle.lk_tree.specs.Spine.{apply}
use Rattle.lk_tree.specs.Bind.{bound}
use Rattle.lk_tree.specs.WellFormed.{IsWellFormed}
use Rattle.lk_tree.proofs.Binding.{open_fine}
use Rattle.lk_rulebook.specs.Place.{Place}
use Rattle.lk_rulebook.specs.Names.{named, op_name}
use Rattle.lk_rulebook.specs.Formers.{IsFormer, SameFormer}
use Rattle.lk_rulebook.specs.Rules.{HasType, t_sort, t_local, t_const, t_app, t_lam, t_pi, t_let, t_lit, t_str, t_proj, HasSort, has_sort, IsProposition, is_prop, Reduces, r_refl, r_trans, r_head, r_beta, r_zeta, r_delta, r_proj, r_major, r_iota, r_k, r_struct, r_quot_lift, r_quot_ind, r_op, IsDefEq, e_refl, e_reduce, e_sort, e_const, e_app, e_lam, e_pi, e_proj, e_eta_left, e_eta_right, e_struct_left, e_struct_right, e_unit, e_proof, e_zero_left, e_zero_right, e_succ_left, e_succ_right, e_str_left, e_str_right}

applied_former : (h : Tree) (xs : List Tree) → IsFormer (apply h xs) → IsFormer h
applied_former h [] f = f
applied_former h (a ∷ xs) f = absurd (applied_former (app h a) xs f)

pub former_stays : {w : Place} {a b : Tree} → Reduces w a b → IsFormer a → a ≡ b
former_stays (r_refl f) h = refl
former_stays (r_trans c d) h = former_stays c h ∙ former_stays d (subst IsFormer (former_stays c h) h)
former_stays (r_head c f) h = absurd h
former_stays (r_beta f) h = absurd h
former_stays (r_zeta f) h = absurd h
former_stays (r_delta g v f) h = absurd h
former_stays (r_proj c r rd at f) h = absurd h
former_stays (r_major R r rd) h = absurd h
former_stays (r_iota R c i f g) h = absurd h
former_stays (r_k R k he hr hd q) h = absurd h
former_stays (r_struct R S o x r p) h = absurd h
former_stays (r_quot_lift ls ks i j f r) h = absurd h
former_stays (r_quot_ind ls ks i j f r) h = absurd h
former_stays (r_op op es ns r o x l s g) h = absurd (applied_former (named (op_name op)) es h)

pub former_typed : {w : Place} {e A : Tree} → HasType w e A → IsFormer e → (l : Level) × (A ≡ sort l)
former_typed (t_sort {l = l}) h = (succ_level l, refl)
former_typed (t_local f) h = absurd h
former_typed (t_const g f) h = absurd h
former_typed (t_app f r x q) h = absurd h
former_typed (t_lam fresh a f) h = absurd h
former_typed (t_pi {u = u} {v = v} fresh a f) h = (imax_level u v, refl)
former_typed (t_let a x q f) h = absurd h
former_typed (t_lit x f) h = absurd h
former_typed (t_str x) h = absurd h
former_typed (t_proj S e r i s p f) h = absurd h

sort_typed : {w : Place} {e A : Tree} → HasType w e A → (l : Level) → e ≡ sort l → A ≡ sort (succ_level l)
sort_typed (t_sort {l = m}) l e = cc
sort_typed (t_local f) l e = absurd cc
sort_typed (t_const g f) l e = absurd cc
sort_typed (t_app f r x q) l e = absurd cc
sort_typed (t_lam fresh a f) l e = absurd cc
sort_typed (t_pi fresh a f) l e = absurd cc
sort_typed (t_let a x q f) l e = absurd cc
sort_typed (t_lit x f) l e = absurd cc
sort_typed (t_str x) l e = absurd cc
sort_typed (t_proj S y r i s p f) l e = absurd cc

succ_not_zero : (l m : Level) → m ≡ succ_level l → SameLevel m zero_level → ⊥
succ_not_zero l m e h = let i : SameLevel (succ_level l) zero_level = rw e at h in absurd (omega (arith, i (λ c. 0)))

sort_of_sort : {w : Place} {A : Tree} {m : Level} → HasSort w A m → (l : Level) → A ≡ sort l → m ≡ succ_level l
sort_of_sort (has_sort {S = S} t r) l e =
    let i : S ≡ sort (succ_level l) = sort_typed t l e in
    let f : IsFormer S = subst IsFormer (sym i) tt in
    let j : S ≡ sort _ = former_stays r f in
    cc

pub sort_is_no_prop : {w : Place} {A : Tree} → IsProposition w A → (l : Level) → A ≡ sort l → ⊥
sort_is_no_prop (is_prop {l = m} h z) l e = succ_not_zero l m (sort_of_sort h l e) z

pi_bound : (A B : Tree) → bound A ≤ bound (pi A B)
unfolding bound
pi_bound A B = omega arith

same_self : (w : Place) (a : Tree) → IsWellFormed a → IsFormer a → SameFormer w a a
same_self w (sort l) x h = λ σ. refl
same_self w (pi A B) x h =
    let k : ℕ = bound (pi A B) in
    record { number = k; fresh = (omega arith, (omega arith, tt)); domains = e_refl x.0; bodies = e_refl (open_fine 0 (local k A) B x.1 (x.0, pi_bound A B)) }
same_self w _ x h = absurd h

-- what has a former's type reduces to no Pi and to no applied constant
pub no_pi : {w : Place} {o T A B : Tree} → HasType w o T → Reduces w T (pi A B) → IsFormer o → ⊥
no_pi {T = T} t r f =
    let i : T ≡ sort _ = (former_typed t f).1 in
    let j : T ≡ pi _ _ = former_stays r (subst IsFormer (sym i) tt) in
    cc

no_constant : {w : Place} {o T : Tree} (J : Name) (ls : List Level) (bs : List Tree) → HasType w o T → Reduces w T (apply (const J ls) bs) → IsFormer o → ⊥
no_constant {T = T} J ls bs t r f =
    let i : T ≡ sort _ = (former_typed t f).1 in
    let g : IsFormer T = subst IsFormer (sym i) tt in
    applied_former (const J ls) bs (subst IsFormer (former_stays r g) g)

pub same_former : {w : Place} {a b : Tree} → IsDefEq w a b → IsFormer a → IsFormer b → SameFormer w a b
same_former {w} (e_refl {a = a} x) f g = same_self w a x f
same_former {w} (e_reduce {a = a} {b = b} {a' = a'} {b' = b'} r s c) f g =
    let i : a ≡ a' = former_stays r f in
    let j : b ≡ b' = former_stays s g in
    let h : SameFormer w a' b' = same_former c (subst IsFormer i f) (subst IsFormer j g) in
    rw (i, j) h
same_former (e_sort h) f g = h
same_former (e_const h) f g = absurd f
same_former (e_app u v c d) f g = absurd f
same_former (e_lam fresh c d) f g = absurd f
same_former (e_pi {k = k} fresh c d) f g = record { number = k; fresh = fresh; domains = c; bodies = d }
same_former (e_proj c) f g = absurd f
same_former (e_eta_left v h r c) f g = absurd (no_pi h r f)
same_former (e_eta_right v h r c) f g = absurd (no_pi h r g)
same_former (e_struct_left S xs v h) f g = absurd (applied_former (const S.structure.ctor_name S.levels) (S.params ++ xs) g)
same_former (e_struct_right S xs v h) f g = absurd (applied_former (const S.structure.ctor_name S.levels) (S.params ++ xs) f)
same_former (e_unit i ls bs a b A B u v n ha r hb q) f g = absurd (no_constant i.name ls bs ha r f)
same_former (e_proof {A = A} u v a p b q) f g = absurd (sort_is_no_prop p (former_typed a f).0 (former_typed a f).1)
same_former e_zero_left f g = absurd f
same_former e_zero_right f g = absurd f
same_former (e_succ_left x c) f g = absurd f
same_former (e_succ_right x c) f g = absurd f
same_former (e_str_left x c) f g = absurd f
same_former (e_str_right x c) f g = absurd g
