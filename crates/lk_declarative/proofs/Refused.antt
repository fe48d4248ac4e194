-- The directed judgement does not take the simple proof for a proof of falsehood: that proof's types are Pis whose
-- bodies are Pis, and no Pi is equal to a variable whose type is a Sort.
use Rattle.std.proofs.Common.{ℕ, ◌≡◌, List, [], ◌∷◌, ◌++◌, refl, sym, subst, ◌∙◌}
use Rattle.lk_tree.specs.Tree.{Name, Level, zero_level, Tree, var, sort, const, app, lam, pi, let_in, proj, lit, wide, str, local}
use Rattle.lk_tree.specs.Bind.{opened, open_at, open_var}
use Rattle.lk_tree.specs.Spine.{apply}
use Rattle.lk_tree.proofs.Binding.{Opening, opening, below, at, above}
use Rattle.lk_rulebook.specs.Place.{Place}
use Rattle.lk_rulebook.specs.Names.{named, op_name}
use Rattle.lk_rulebook.specs.Structures.{structure_value}
use Rattle.lk_rulebook.specs.Formers.{IsFormer, SamePi}
use Rattle.lk_rulebook.proofs.Sorts.{former_stays, former_typed, sort_is_no_prop, same_former}
use Rattle.lk_rulebook.specs.Rules.{HasType, t_sort, t_local, t_const, t_app, t_lam, t_pi, t_let, t_lit, t_str, t_proj, Reduces, r_refl, r_trans, r_head, r_beta, r_zeta, r_delta, r_proj, r_major, r_iota, r_k, r_struct, r_quot_lift, r_quot_ind, r_op, IsDefEq, e_refl, e_reduce, e_sort, e_const, e_app, e_lam, e_pi, e_proj, e_eta_left, e_eta_right, e_struct_left, e_struct_right, e_unit, e_proof, e_zero_left, e_zero_right, e_succ_left, e_succ_right, e_str_left, e_str_right}
use Rattle.lk_declarative.specs.Falsehood.{truth, simple_proof, falsehood}

abbrev IsPi : Tree → Type 0
IsPi (pi A B) = Unit {0}
IsPi _ = ⊥

abbrev IsSort : Tree → Type 0
IsSort (sort l) = Unit {0}
IsSort _ = ⊥

-- a Local whose type is a Sort
abbrev IsVariable : Tree → Type 0
IsVariable (local k T) = IsSort T
IsVariable _ = ⊥

a_former : (a : Tree) → IsPi a → IsFormer a
a_former (pi A B) f = tt
a_former _ f = absurd f

a_sort : (T : Tree) → IsSort T → (l : Level) × (T ≡ sort l)
a_sort (sort l) f = (l, refl)
a_sort _ f = absurd f

not_both : (a : Tree) → IsPi a → IsVariable a → ⊥
not_both (pi A B) f g = g
not_both _ f g = absurd f

applied_former : (h : Tree) (xs : List Tree) → IsFormer (apply h xs) → IsFormer h
applied_former h [] f = f
applied_former h (a ∷ xs) f = absurd (applied_former (app h a) xs f)

applied_variable : (h : Tree) (xs : List Tree) → IsVariable (apply h xs) → IsVariable h
applied_variable h [] f = f
applied_variable h (a ∷ xs) f = absurd (applied_variable (app h a) xs f)

variable_stays : {w : Place} {a b : Tree} → Reduces w a b → IsVariable a → a ≡ b
variable_stays (r_refl f) h = refl
variable_stays (r_trans c d) h = variable_stays c h ∙ variable_stays d (subst IsVariable (variable_stays c h) h)
variable_stays (r_head c f) h = absurd h
variable_stays (r_beta f) h = absurd h
variable_stays (r_zeta f) h = absurd h
variable_stays (r_delta g v f) h = absurd h
variable_stays (r_proj c r rd e f) h = absurd h
variable_stays (r_major R r rd) h = absurd h
variable_stays (r_iota R c i f g) h = absurd h
variable_stays (r_k R k he hr hd q) h = absurd h
variable_stays (r_struct R S o x r p) h = absurd h
variable_stays (r_quot_lift ls ks i j f r) h = absurd h
variable_stays (r_quot_ind ls ks i j f r) h = absurd h
variable_stays (r_op op es ns r o x l s g) h = absurd (applied_variable (named (op_name op)) es h)

variable_typed : {w : Place} {e A : Tree} → HasType w e A → IsVariable e → (l : Level) × (A ≡ sort l)
variable_typed t_sort h = absurd h
variable_typed (t_local {T = T} f) h = a_sort T h
variable_typed (t_const g f) h = absurd h
variable_typed (t_app f r x q) h = absurd h
variable_typed (t_lam fresh a f) h = absurd h
variable_typed (t_pi fresh a f) h = absurd h
variable_typed (t_let a x q f) h = absurd h
variable_typed (t_lit x f) h = absurd h
variable_typed (t_str x) h = absurd h
variable_typed (t_proj S e r i s p f) h = absurd h

sort_is_no_pi : {w : Place} {T A B : Tree} → (l : Level) × (T ≡ sort l) → Reduces w T (pi A B) → ⊥
sort_is_no_pi {T = T} s r =
    let j : T ≡ pi _ _ = former_stays r (subst IsFormer (sym s.1) tt) in
    let i : T ≡ sort s.0 = s.1 in
    cc

sort_is_no_constant : {w : Place} {T : Tree} (J : Name) (ls : List Level) (bs : List Tree) → (l : Level) × (T ≡ sort l) → Reduces w T (apply (const J ls) bs) → ⊥
sort_is_no_constant J ls bs s r =
    let f : IsFormer _ = subst IsFormer (sym s.1) tt in
    applied_former (const J ls) bs (subst IsFormer (former_stays r f) f)

pi_is_no_variable : {w : Place} {a b : Tree} → IsDefEq w a b → IsPi a → IsVariable b → ⊥
pi_is_no_variable (e_refl {a = a} x) f g = not_both a f g
pi_is_no_variable (e_reduce {a = a} {b = b} r s c) f g =
    pi_is_no_variable c (subst IsPi (former_stays r (a_former a f)) f) (subst IsVariable (variable_stays s g) g)
pi_is_no_variable (e_sort h) f g = absurd f
pi_is_no_variable (e_const h) f g = absurd f
pi_is_no_variable (e_app u v c d) f g = absurd f
pi_is_no_variable (e_lam fresh c d) f g = absurd f
pi_is_no_variable (e_pi fresh c d) f g = absurd g
pi_is_no_variable (e_proj c) f g = absurd f
pi_is_no_variable (e_eta_left {o = o} v h r c) f g = sort_is_no_pi (former_typed h (a_former o f)) r
pi_is_no_variable (e_eta_right v h r c) f g = sort_is_no_pi (variable_typed h g) r
pi_is_no_variable (e_struct_left S xs v h) f g = absurd (applied_variable (const S.structure.ctor_name S.levels) (S.params ++ xs) g)
pi_is_no_variable (e_struct_right S xs v h) f g =
    absurd (applied_former (const S.structure.ctor_name S.levels) (S.params ++ xs) (a_former (structure_value S xs) f))
pi_is_no_variable (e_unit i ls bs a b A B u v n ha r hb q) f g = sort_is_no_constant i.name ls bs (former_typed ha (a_former a f)) r
pi_is_no_variable (e_proof {a = a} u v ha p hb q) f g = let s : _ = former_typed ha (a_former a f) in sort_is_no_prop p s.0 s.1
pi_is_no_variable e_zero_left f g = absurd f
pi_is_no_variable e_zero_right f g = absurd f
pi_is_no_variable (e_succ_left x c) f g = absurd f
pi_is_no_variable (e_succ_right x c) f g = absurd f
pi_is_no_variable (e_str_left x c) f g = absurd f
pi_is_no_variable (e_str_right x c) f g = absurd g

-- what the rule of lambda says of the type
abbrev LamType : Place → Tree → Tree → Type 0
LamType w (lam D b) A = (B : Tree) × (k : ℕ) × (A ≡ pi D B) × HasType w (opened b (local k D)) (opened B (local k D))
LamType w _ A = Unit {0}

lam_typed : {w : Place} {e A : Tree} → HasType w e A → LamType w e A
lam_typed t_sort = tt
lam_typed (t_local f) = tt
lam_typed (t_const g f) = tt
lam_typed (t_app f r x q) = tt
lam_typed (t_lam {B = B} {k = k} fresh a f) = (B, k, refl, f)
lam_typed (t_pi fresh a f) = tt
lam_typed (t_let a x q f) = tt
lam_typed (t_lit x f) = tt
lam_typed (t_str x) = tt
lam_typed (t_proj S e r i s p f) = tt

var_is_no_pi : (i k : ℕ) (T : Tree) → Opening 0 i (local k T) → IsPi (open_var 0 (local k T) i) → ⊥
var_is_no_pi i k T (below l e) f = rw e at f
var_is_no_pi i k T (at l e) f = rw e at f
var_is_no_pi i k T (above l e) f = rw e at f

-- what is a Pi once a Local is put in is one whatever is put in
still_pi : (k : ℕ) (T v B : Tree) → IsPi (opened B (local k T)) → IsPi (opened B v)
unfolding open_at
still_pi k T v (pi A B) f = tt
still_pi k T v (var i) f = absurd (var_is_no_pi i k T (opening 0 i (local k T)) f)
still_pi k T v (sort l) f = absurd f
still_pi k T v (const c ls) f = absurd f
still_pi k T v (app g a) f = absurd f
still_pi k T v (lam A b) f = absurd f
still_pi k T v (let_in A a b) f = absurd f
still_pi k T v (proj S i s) f = absurd f
still_pi k T v (lit n) f = absurd f
still_pi k T v wide f = absurd f
still_pi k T v (str s) f = absurd f
still_pi k T v (local j S) f = absurd f

abbrev prop : Tree
prop = sort zero_level

pub not_falsehood : {w : Place} → IsDefEq w truth falsehood → ⊥
unfolding open_at
not_falsehood {w = w} e =
    let s : SamePi w prop (pi (var 0) (var 1)) prop (var 0) = same_former e tt tt in
    pi_is_no_variable s.bodies tt tt

pub not_a_proof : {w : Place} (A : Tree) → HasType w simple_proof A → IsDefEq w A falsehood → ⊥
unfolding open_at
not_a_proof {w = w} A t e =
    let p : LamType w simple_proof A = lam_typed t in
    let x : Tree = local p.1 prop in
    let q : LamType w (lam x (var 0)) (opened p.0 x) = lam_typed p.3 in
    let f : IsPi (opened p.0 x) = subst IsPi (sym q.2) tt in
    let d : IsDefEq w (pi prop p.0) falsehood = subst (λ (X : Tree). IsDefEq w X falsehood) p.2 e in
    let s : SamePi w prop p.0 prop (var 0) = same_former d tt tt in
    pi_is_no_variable s.bodies (still_pi p.1 prop (local s.number prop) p.0 f) tt
