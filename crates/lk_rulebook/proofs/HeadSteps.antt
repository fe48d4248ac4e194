-- Steps of beta and zeta at the head are all that can be done there, and equality keeps Sorts and Pis apart behind them.
use Rattle.std.proofs.Common.{◌≡◌, List, [], ◌∷◌, ◌++◌, refl, sym, subst, ap, Some}
use Rattle.lk_tree.specs.Tree.{Name, Level, Tree, var, sort, const, app, lam, pi, let_in, proj, lit, wide, str, local}
use Rattle.lk_tree.specs.Spine.{apply, IsNeutral, IsHeadNormal}
use Rattle.lk_tree.specs.WellFormed.{IsWellFormed}
use Rattle.lk_tree.proofs.Spines.{neutral_applied, normal_neutral}
use Rattle.lk_rulebook.specs.Place.{Place, Entry, Kind}
use Rattle.lk_rulebook.specs.Names.{op_name, string}
use Rattle.lk_rulebook.specs.Structures.{ctor_app}
use Rattle.lk_rulebook.specs.Formers.{IsOfBlock, GivesNoBlock, IsFormer, SameFormer}
use Rattle.lk_rulebook.proofs.Scopes.{well_formed_of_reduct, well_formed_of_equal}
use Rattle.lk_rulebook.proofs.Sorts.{former_typed, sort_is_no_prop, no_pi, same_former}
use Rattle.lk_rulebook.specs.Rules.{Reduces, r_refl, r_trans, r_head, r_beta, r_zeta, r_delta, r_proj, r_major, r_iota, r_k, r_struct, r_quot_lift, r_quot_ind, r_op, IsDefEq, e_refl, e_reduce, e_sort, e_const, e_app, e_lam, e_pi, e_proj, e_eta_left, e_eta_right, e_struct_left, e_struct_right, e_unit, e_proof, e_zero_left, e_zero_right, e_succ_left, e_succ_right, e_str_left, e_str_right}
use Rattle.lk_rulebook.specs.HeadSteps.{StepsTo, by_beta, by_zeta, in_head, RunsTo, no_step, one_step}

neutral_stops : {a b : Tree} → StepsTo a b → IsNeutral a → ⊥
neutral_stops by_beta n = n
neutral_stops by_zeta n = n
neutral_stops (in_head s) n = neutral_stops s n

normal_stops : {a b : Tree} → StepsTo a b → IsHeadNormal a → ⊥
normal_stops by_beta n = n
normal_stops by_zeta n = n
normal_stops (in_head s) n = neutral_stops s n

-- what runs from a tree that has no step is that tree
pub stays_there : {a b : Tree} → RunsTo a b → IsHeadNormal a → a ≡ b
stays_there no_step n = refl
stays_there (one_step s r) n = absurd (normal_stops s n)

abbrev IsLam : Tree → Type 0
IsLam (lam A b) = Unit {0}
IsLam _ = ⊥

lam_stops : {a b : Tree} → StepsTo a b → IsLam a → ⊥
lam_stops by_beta h = h
lam_stops by_zeta h = h
lam_stops (in_head s) h = h

-- a tree has one step
one_way : {a b c : Tree} → StepsTo a b → StepsTo a c → b ≡ c
one_way by_beta by_beta = refl
one_way by_beta (in_head s) = absurd (lam_stops s tt)
one_way by_zeta by_zeta = refl
one_way (in_head s) by_beta = absurd (lam_stops s tt)
one_way (in_head {a = a} s) (in_head t) = ap (λ g. app g a) (one_way s t)

pub in_spine : {a b : Tree} (xs : List Tree) → StepsTo a b → StepsTo (apply a xs) (apply b xs)
in_spine [] s = s
in_spine (x ∷ xs) s = in_spine xs (in_head s)

pub former_normal : (a : Tree) → IsFormer a → IsHeadNormal a
former_normal (sort l) f = tt
former_normal (pi A B) f = tt
former_normal (var i) f = absurd f
former_normal (const c ls) f = absurd f
former_normal (app g a) f = absurd f
former_normal (lam A b) f = absurd f
former_normal (let_in A v b) f = absurd f
former_normal (proj S i s) f = absurd f
former_normal (lit n) f = absurd f
former_normal wide f = absurd f
former_normal (str s) f = absurd f
former_normal (local k T) f = absurd f

-- the run of a tree that has a step goes by it
pub past_step : {a b F : Tree} → StepsTo a b → RunsTo a F → IsHeadNormal F → RunsTo b F
past_step s no_step n = absurd (normal_stops s n)
past_step {F = F} s (one_step {b = x} t r) n = subst (λ z. RunsTo z F) (one_way t s) r

applied_former : (h : Tree) (xs : List Tree) → IsFormer (apply h xs) → IsFormer h
applied_former h [] f = f
applied_former h (x ∷ xs) f = absurd (applied_former (app h x) xs f)

-- a neutral tree that is no Sort and no Pi runs to none
neutral_runs : (a : Tree) (xs : List Tree) {F : Tree} → IsNeutral a → (IsFormer a → ⊥) → RunsTo (apply a xs) F → IsFormer F → ⊥
neutral_runs a xs {F} n other r f =
    let e : apply a xs ≡ F = stays_there r (normal_neutral (apply a xs) (neutral_applied a xs n)) in
    other (applied_former a xs (subst IsFormer (sym e) f))

constant_runs : (c : Name) (ls : List Level) (xs ys : List Tree) {F : Tree} → RunsTo (apply (apply (const c ls) xs) ys) F → IsFormer F → ⊥
constant_runs c ls xs ys r f = neutral_runs (apply (const c ls) xs) ys (neutral_applied (const c ls) xs tt) (applied_former (const c ls) xs) r f

-- what a tree reduces to runs on to the Sort or Pi that the tree runs to
pub forward : {w : Place} {a b : Tree} → Reduces w a b → (xs : List Tree) {F : Tree} → RunsTo (apply a xs) F → IsFormer F → RunsTo (apply b xs) F
forward (r_refl h) xs r f = r
forward (r_trans c d) xs r f = forward d xs (forward c xs r f) f
forward (r_head {a = a} c h) xs r f = forward c (a ∷ xs) r f
forward (r_beta h) xs {F} r f = past_step (in_spine xs by_beta) r (former_normal F f)
forward (r_zeta h) xs {F} r f = past_step (in_spine xs by_zeta) r (former_normal F f)
forward (r_delta {c = c} {ls = ls} g v h) xs r f = absurd (constant_runs c ls [] xs r f)
forward (r_proj c {i = i} {e = e} p q at fx) xs r f = absurd (neutral_runs (proj c.ind.name i e) xs tt (λ z. z) r f)
forward (r_major R {e = e} p q) xs r f = absurd (constant_runs R.name R.levels R.front (e ∷ xs) r f)
forward (r_iota R c i h g) xs r f = absurd (constant_runs R.name R.levels R.front (ctor_app c ∷ xs) r f)
forward (r_k R k {e = e} he hr hd q) xs r f = absurd (constant_runs R.name R.levels R.front (e ∷ xs) r f)
forward (r_struct R S {m = m} o hm p q) xs r f = absurd (constant_runs R.name R.levels R.front (m ∷ xs) r f)
forward (r_quot_lift ls ks {A = A} {r = t} {B = B} {f = g} {h = h} {e = e} i j ff p) xs r f = absurd (constant_runs _ ls (A ∷ t ∷ B ∷ g ∷ h ∷ e ∷ []) xs r f)
forward (r_quot_ind ls ks {A = A} {r = t} {B = B} {h = h} {e = e} i j ff p) xs r f = absurd (constant_runs _ ls (A ∷ t ∷ B ∷ h ∷ e ∷ []) xs r f)
forward (r_op op es ns x o n l s g) xs r f = absurd (constant_runs (op_name op) [] es xs r f)

-- steps are reductions
step_reduces : {w : Place} {a b : Tree} → StepsTo a b → IsWellFormed a → Reduces w a b
step_reduces by_beta f = r_beta f
step_reduces by_zeta f = r_zeta f
step_reduces (in_head s) f = r_head (step_reduces s f.0) f.1

run_reduces : {w : Place} {a b : Tree} → RunsTo a b → IsWellFormed a → Reduces w a b
run_reduces no_step f = r_refl f
run_reduces (one_step s r) f = let c : _ = step_reduces s f in r_trans c (run_reduces r (well_formed_of_reduct c).1)

pub run_fine : (w : Place) {a b : Tree} → RunsTo a b → IsWellFormed a → IsWellFormed b
run_fine w no_step f = f
run_fine w (one_step s r) f = run_fine w r (well_formed_of_reduct (step_reduces {w = w} s f)).1

-- a tree runs to one tree that has no step
pub one_end : {a F G : Tree} → RunsTo a F → RunsTo a G → IsHeadNormal F → IsHeadNormal G → F ≡ G
one_end no_step r n o = stays_there r n
one_end (one_step s t) r n o = one_end t (past_step s r o) n o

-- both sides have no step: they are the Sorts and Pis themselves
both_there : {w : Place} {a b F G : Tree} → IsDefEq w a b → IsHeadNormal a → IsHeadNormal b → RunsTo a F → RunsTo b G → IsFormer F → IsFormer G → SameFormer w F G
both_there {w} {a} {b} {F} {G} e n o r s f g =
    let i : a ≡ F = stays_there r n in
    let j : b ≡ G = stays_there s o in
    same_former (subst (IsDefEq w F) j (subst (λ z. IsDefEq w z b) i e)) f g

not_there : {a F : Tree} → RunsTo a F → IsFormer F → IsHeadNormal a → (IsFormer a → ⊥) → ⊥
not_there r f n other = other (subst IsFormer (sym (stays_there r n)) f)

pub constant_normal : (c : Name) (ls : List Level) (xs : List Tree) → IsHeadNormal (apply (const c ls) xs)
constant_normal c ls xs = normal_neutral (apply (const c ls) xs) (neutral_applied (const c ls) xs tt)

pub apart_behind_steps : {w : Place} {a b : Tree} → IsDefEq w a b → {F G : Tree} → RunsTo a F → RunsTo b G → IsFormer F → IsFormer G → SameFormer w F G
apart_behind_steps {w} (e_refl h) {F} {G} r s f g =
    same_former (subst (IsDefEq w F) (one_end r s (former_normal F f) (former_normal G g)) (e_refl (run_fine w r h))) f g
apart_behind_steps (e_reduce p q e) r s f g = apart_behind_steps e (forward p [] r f) (forward q [] s g) f g
apart_behind_steps (e_sort x) r s f g = both_there (e_sort x) tt tt r s f g
apart_behind_steps (e_const x) r s f g = absurd (not_there r f tt (λ z. z))
apart_behind_steps (e_app u v e h) r s f g = absurd (not_there r f u (λ z. z))
apart_behind_steps (e_lam fresh e h) r s f g = absurd (not_there r f tt (λ z. z))
apart_behind_steps (e_pi fresh e h) r s f g = both_there (e_pi fresh e h) tt tt r s f g
apart_behind_steps (e_proj e) r s f g = absurd (not_there r f tt (λ z. z))
apart_behind_steps (e_eta_left v t h e) r s f g = absurd (not_there s g tt (λ z. z))
apart_behind_steps (e_eta_right v t h e) r s f g = absurd (not_there r f tt (λ z. z))
apart_behind_steps (e_struct_left S xs v h) r s f g = absurd (constant_runs S.structure.ctor_name S.levels (S.params ++ xs) [] s g)
apart_behind_steps (e_struct_right S xs v h) r s f g = absurd (constant_runs S.structure.ctor_name S.levels (S.params ++ xs) [] r f)
apart_behind_steps (e_unit i ls bs a b A B u v n ha p hb q) r s f g = both_there (e_unit i ls bs a b A B u v n ha p hb q) u v r s f g
apart_behind_steps (e_proof u v ha p hb q) r s f g = both_there (e_proof u v ha p hb q) u v r s f g
apart_behind_steps e_zero_left r s f g = absurd (not_there r f tt (λ z. z))
apart_behind_steps e_zero_right r s f g = absurd (not_there r f tt (λ z. z))
apart_behind_steps (e_succ_left x e) r s f g = absurd (not_there r f tt (λ z. z))
apart_behind_steps (e_succ_right x e) r s f g = absurd (not_there r f tt (λ z. z))
apart_behind_steps (e_str_left x e) r s f g = absurd (not_there r f tt (λ z. z))
apart_behind_steps (e_str_right x e) r s f g = absurd (not_there s g tt (λ z. z))

-- b reduces to a Sort or a Pi that equals F in its parts
abbrev Follows : Place → Tree → Tree → Type 0
Follows w b F = (G : Tree) × Reduces w b G × IsFormer G × SameFormer w F G

-- both sides are Sorts or Pis
at_once : {w : Place} {a b F : Tree} → IsDefEq w a b → IsHeadNormal a → RunsTo a F → IsFormer F → IsFormer b → Follows w b F
at_once {w} {a} {b} {F} e n r f g = (b, r_refl (well_formed_of_equal e).1, g, same_former (subst (λ z. IsDefEq w z b) (stays_there r n) e) f g)

is_former : {a F : Tree} → IsHeadNormal a → RunsTo a F → IsFormer F → IsFormer a
is_former n r f = subst IsFormer (sym (stays_there r n)) f

no_member : (w : Place) {k : Kind} → GivesNoBlock w → (c : Name) (g : Entry) → w.means c ≡ Some g → g.kind ≡ k → IsOfBlock k → ⊥
no_member w n c g m e h = n c g m (subst IsOfBlock (sym e) h)

pub comes_along : {w : Place} {a b : Tree} → GivesNoBlock w → IsDefEq w a b → {F : Tree} → RunsTo a F → IsFormer F → Follows w b F
comes_along {w} n (e_refl h) {F} r f = (F, run_reduces r h, f, same_former (e_refl (run_fine w r h)) f f)
comes_along n (e_reduce p q e) r f =
    let i : _ = comes_along n e (forward p [] r f) f in
    (i.0, r_trans q i.1, i.2, i.3)
comes_along n (e_sort x) r f = at_once (e_sort x) tt r f tt
comes_along n (e_pi fresh e h) r f = at_once (e_pi fresh e h) tt r f tt
comes_along n (e_const x) r f = absurd (not_there r f tt (λ z. z))
comes_along n (e_app u v e h) r f = absurd (not_there r f u (λ z. z))
comes_along n (e_lam fresh e h) r f = absurd (not_there r f tt (λ z. z))
comes_along n (e_proj e) r f = absurd (not_there r f tt (λ z. z))
comes_along n (e_eta_left {o = o} v t h e) r f = absurd (no_pi t h (is_former (normal_neutral o v) r f))
comes_along n (e_eta_right v t h e) r f = absurd (not_there r f tt (λ z. z))
comes_along {w} n (e_struct_left S xs v h) r f = let i = S.structure in absurd (no_member w n i.ctor_name i.entry i.given i.kind tt)
comes_along {w} n (e_struct_right S xs v h) r f = let i = S.structure in absurd (no_member w n i.ctor_name i.entry i.given i.kind tt)
comes_along {w} n (e_unit i ls bs a b A B u v l ha p hb q) r f = absurd (no_member w n i.name i.entry i.given i.kind tt)
comes_along n (e_proof u v ha p hb q) r f =
    let t : _ = former_typed ha (is_former u r f) in
    absurd (sort_is_no_prop p t.0 t.1)
comes_along n e_zero_left r f = absurd (not_there r f tt (λ z. z))
comes_along n e_zero_right r f = absurd (not_there r f tt (λ z. z))
comes_along n (e_succ_left x e) r f = absurd (not_there r f tt (λ z. z))
comes_along n (e_succ_right x e) r f = absurd (not_there r f tt (λ z. z))
comes_along n (e_str_left x e) r f = absurd (not_there r f tt (λ z. z))
comes_along {w} n (e_str_right x e) r f = absurd (no_member w n string x.shape.entry x.shape.given x.shape.kind tt)
