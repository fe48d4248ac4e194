-- Equal applications of one rigid constant have equal levels and equal arguments, whatever eta does to them.
use Rattle.std.proofs.Common.{◌∙◌, ℕ, suc, ◌≡◌, ◌≤◌, ◌<◌, List, [], ◌∷◌, refl, sym, subst, ap, arith}
use Rattle.lk_tree.specs.Tree.{Name, Level, Tree, var, sort, const, app, lam, pi, let_in, proj, lit, wide, str, local}
use Rattle.lk_tree.specs.Bind.{open_at, open_var, opened}
use Rattle.lk_tree.specs.WellFormed.{IsWellFormedUnder, IsWellFormed}
use Rattle.lk_tree.proofs.Binding.{Opening, below, at, above, opening}
use Rattle.lk_rulebook.specs.Place.{Place}
use Rattle.lk_rulebook.specs.Names.{named, op_name}
use Rattle.lk_rulebook.specs.Names.{nat_succ}
use Rattle.lk_rulebook.specs.Literals.{IsOperation}
use Rattle.lk_tree.specs.Operations.{succ}
use Rattle.lk_rulebook.proofs.Scopes.{well_formed_of_type}
use Rattle.lk_rulebook.specs.Rules.{SameLevels, none, more, Reduces, r_refl, r_trans, r_head, r_beta, r_zeta, r_delta, r_proj, r_major, r_iota, r_k, r_struct, r_quot_lift, r_quot_ind, r_op, IsDefEq, e_refl, e_reduce, e_sort, e_const, e_app, e_lam, e_pi, e_proj, e_eta_left, e_eta_right, e_struct_left, e_struct_right, e_unit, e_proof, e_zero_left, e_zero_right, e_succ_left, e_succ_right, e_str_left, e_str_right}
use Rattle.lk_meaning.specs.Rigid.{Heads, IsApplied, IsRigid, SameSpine, same_heads, same_args}
use Rattle.lk_meaning.proofs.Rigid.{applied_heads, heads_applied, rigid_quot, only_succ, rigid_value, rigid_rec, struct_head, heads_typed, heads_no_prop, data_at, no_unit_like}

-- a tree without loose variables is not changed by opening
var_stays : (d i : ℕ) (v : Tree) → i < d → Opening d i v → open_var d v i ≡ var i
var_stays d i v h (below l e) = e
var_stays d i v h (at l e) = absurd (omega arith)
var_stays d i v h (above l e) = absurd (omega arith)

open_same : (d n : ℕ) (v e : Tree) → IsWellFormedUnder n e → n ≤ d → open_at d v e ≡ e
unfolding open_at
open_same d n v (var i) f h = var_stays d i v (omega arith) (opening d i v)
open_same d n v (sort l) f h = refl
open_same d n v (const c ls) f h = refl
open_same d n v (app g a) f h = rw (open_same d n v g f.0 h, open_same d n v a f.1 h) refl
open_same d n v (lam A b) f h = rw (open_same d n v A f.0 h, open_same (suc d) (suc n) v b f.1 (omega arith)) refl
open_same d n v (pi A B) f h = rw (open_same d n v A f.0 h, open_same (suc d) (suc n) v B f.1 (omega arith)) refl
open_same d n v (let_in A a b) f h = rw (open_same d n v A f.0 h, open_same d n v a f.1 h, open_same (suc d) (suc n) v b f.2 (omega arith)) refl
open_same d n v (proj S i s) f h = ap (proj S i) (open_same d n v s f h)
open_same d n v (lit k) f h = refl
open_same d n v wide f h = refl
open_same d n v (str s) f h = refl
open_same d n v (local k T) f h = refl

-- a is o, up to eta at its head
data Longer : Tree → Tree → Type 0 where
  itself : {o : Tree} → Longer o o
  longer : {o a A : Tree} → IsWellFormed a → Longer o a → Longer o (lam A (app a (var 0)))
  under : {o a x : Tree} → Longer o a → Longer (app o x) (app a x)

record OfApp (o f t : Tree) : Type 0 where
  front : Tree
  is : o ≡ app front t
  rest : Longer front f

of_app : {o a : Tree} → Longer o a → (f t : Tree) → a ≡ app f t → OfApp o f t
of_app (itself {o = o}) f t e = record { front = f; is = e; rest = itself }
of_app (longer x h) f t e = absurd cc
of_app (under {o = o} {a = a} {x = x} h) f t e =
    let i : a ≡ f = cc in
    let j : x ≡ t = cc in
    record { front = o; is = ap (app o) j; rest = subst (Longer o) i h }

record OfLam (o b : Tree) : Type 0 where
  inner : Tree
  is : b ≡ app inner (var 0)
  fine : IsWellFormed inner
  rest : Longer o inner

of_lam : {o a : Tree} (c : Name) → IsApplied c o → Longer o a → (A b : Tree) → a ≡ lam A b → OfLam o b
of_lam c s (itself {o = o}) A b e = absurd (subst (IsApplied c) e s)
of_lam c s (longer {a = a} f h) A b e = record { inner = a; is = cc; fine = f; rest = h }
of_lam c s (under h) A b e = absurd cc

of_const : {o a : Tree} → Longer o a → (d : Name) (ls : List Level) → a ≡ const d ls → o ≡ const d ls
of_const itself d ls e = e
of_const (longer f h) d ls e = absurd cc
of_const (under h) d ls e = absurd cc

long_heads : {o a : Tree} (c : Name) → IsApplied c o → Longer o a → Heads c a
long_heads c s (itself {o = o}) = applied_heads c o s
long_heads c s (longer f h) = long_heads c s h
long_heads c s (under h) = long_heads c s h

front_applied : (c : Name) (o f t : Tree) → o ≡ app f t → IsApplied c o → IsApplied c f
front_applied c o f t e s = subst (IsApplied c) e s

-- b[t] where b is a applied to its variable
opened_inner : (a b t : Tree) → IsWellFormed a → b ≡ app a (var 0) → opened b t ≡ app a t
unfolding open_at
opened_inner a b t f e = rw e (ap (λ g. app g t) (open_same 0 0 t a f (omega arith)))

long_stays : {w : Place} {c : Name} → IsRigid w c → (IsOperation w succ → c ≡ nat_succ → ⊥) → {a b : Tree} → Reduces w a b → (o : Tree) → IsApplied c o → Longer o a → Longer o b
long_stays r ns (r_refl f) o s h = h
long_stays r ns (r_trans p q) o s h = long_stays r ns q o s (long_stays r ns p o s h)
long_stays {c = c} r ns (r_head {f = f} {g = g} {a = t} p x) o s h =
    let i : OfApp o f t = of_app h f t refl in
    subst (λ z. Longer z (app g t)) (sym i.is) (under (long_stays r ns p i.front (front_applied c o i.front t i.is s) i.rest))
long_stays {c = c} r ns (r_beta {A = A} {b = b} {a = t} x) o s h =
    let i : OfApp o (lam A b) t = of_app h (lam A b) t refl in
    let j : OfLam i.front b = of_lam c (front_applied c o i.front t i.is s) i.rest A b refl in
    rw (i.is, opened_inner j.inner b t j.fine j.is) (under j.rest)
long_stays {c = c} r ns (r_zeta f) o s h = absurd (long_heads c s h)
long_stays {c = c} r ns (r_delta g y f) o s h = absurd (rigid_value r (long_heads c s h) g y)
long_stays {c = c} r ns (r_proj d p y i f) o s h = absurd (long_heads c s h)
long_stays {c = c} r ns (r_major R p y) o s h = absurd (rigid_rec r R (long_heads c s h))
long_stays {c = c} r ns (r_iota R d i f g) o s h = absurd (rigid_rec r R (long_heads c s h))
long_stays {c = c} r ns (r_quot_lift ls ks q m f e) o s h = absurd (rigid_quot r q (long_heads c s h))
long_stays {c = c} r ns (r_quot_ind ls ks q m f e) o s h = absurd (rigid_quot r q (long_heads c s h))
long_stays {w} {c} r ns (r_op op es nums t i n l v y) o s h =
    let e : c ≡ op_name op = heads_applied c (named (op_name op)) es (long_heads c s h) in
    let j : op ≡ succ = only_succ r op i e in
    absurd (ns (subst (IsOperation w) j i) (e ∙ ap op_name j))
long_stays {c = c} r ns (r_k R k he hr hd q) o s h = absurd (rigid_rec r R (long_heads c s h))
long_stays {c = c} r ns (r_struct R t i x p q) o s h = absurd (rigid_rec r R (long_heads c s h))

same_levels : (ls : List Level) → SameLevels ls ls
same_levels [] = none
same_levels (l ∷ ls) = more (λ σ. refl) (same_levels ls)

same_front : {w : Place} {a b : Tree} → SameSpine w a b → (f g t u : Tree) → a ≡ app f t → b ≡ app g u → SameSpine w f g
same_front (same_heads x) f g t u d e = absurd cc
same_front {w} (same_args {f = f'} {g = g'} h q) f g t u d e =
    let i : f' ≡ f = cc in
    let j : g' ≡ g = cc in
    subst (λ z. SameSpine w z g) i (subst (SameSpine w f') j h)

-- a spine, and another that it is longer than
one_spine : {w : Place} (c : Name) (a : Tree) → IsWellFormed a → (p : Tree) → IsApplied c a → IsApplied c p → Longer p a → SameSpine w a p
one_spine {w} c (app f t) x p s r k =
    let j : OfApp p f t = of_app k f t refl in
    let n : SameSpine w f j.front = one_spine c f x.0 j.front s (front_applied c p j.front t j.is r) j.rest in
    rw (j.is) (same_args n (e_refl x.1))
one_spine {w} c (const d ls) x p s r k = rw (of_const k d ls refl) (same_heads (same_levels ls))
one_spine c (lam A b) x p s r k = absurd s
one_spine c (var i) x p s r k = absurd s
one_spine c (sort l) x p s r k = absurd s
one_spine c (pi A B) x p s r k = absurd s
one_spine c (let_in A a b) x p s r k = absurd s
one_spine c (proj S i t) x p s r k = absurd s
one_spine c (lit n) x p s r k = absurd s
one_spine c wide x p s r k = absurd s
one_spine c (str t) x p s r k = absurd s
one_spine c (local m T) x p s r k = absurd s

-- two spines that one tree is longer than
one_tree : {w : Place} (c : Name) {o a p : Tree} → Longer o a → IsWellFormed a → IsApplied c o → IsApplied c p → Longer p a → SameSpine w o p
one_tree c (itself {o = o}) x s r k = one_spine c o x _ s r k
one_tree c {p = p} (longer {a = a} {A = A} f h) x s r k =
    let j : OfLam p (app a (var 0)) = of_lam c r k A (app a (var 0)) refl in
    let i : j.inner ≡ a = absurd_free a j.inner j.is in
    one_tree c h f s r (subst (Longer p) i j.rest)
  where
    absurd_free : (a b : Tree) → app a (var 0) ≡ app b (var 0) → b ≡ a
    absurd_free a b e = cc
one_tree {w} c {p = p} (under {o = o} {a = a} {x = t} h) x s r k =
    let j : OfApp p a t = of_app k a t refl in
    let n : SameSpine w o j.front = one_tree c h x.0 s (front_applied c p j.front t j.is r) j.rest in
    rw (j.is) (same_args n (e_refl x.1))

of_lit : {o a : Tree} → Longer o a → (n : ℕ) → a ≡ lit n → o ≡ lit n
of_lit itself n e = e
of_lit (longer f h) n e = absurd cc
of_lit (under h) n e = absurd cc

lit_not : (c : Name) (n : ℕ) (o : Tree) → IsApplied c o → Longer o (lit n) → ⊥
lit_not c n o s h = subst (IsApplied c) (of_lit h n refl) s

injective : {w : Place} {c : Name} → IsRigid w c → (IsOperation w succ → c ≡ nat_succ → ⊥) → {a b : Tree} → IsDefEq w a b →
    (o p : Tree) → IsApplied c o → IsApplied c p → Longer o a → Longer p b → SameSpine w o p
injective {c = c} z ns (e_refl {a = a} x) o p s r h k = one_tree c h x s r k
injective z ns (e_reduce u v e) o p s r h k = injective z ns e o p s r (long_stays z ns u o s h) (long_stays z ns v p r k)
injective z ns (e_const {c = d} {ls = ls} {ms = ms} x) o p s r h k = rw (of_const h d ls refl, of_const k d ms refl) (same_heads x)
injective {w} {c} z ns (e_app {f = f} {g = g} {a = a} {b = b} d l e q) o p s r h k =
    let i : OfApp o f a = of_app h f a refl in
    let j : OfApp p g b = of_app k g b refl in
    let n : SameSpine w i.front j.front = injective z ns e i.front j.front (front_applied c o i.front a i.is s) (front_applied c p j.front b j.is r) i.rest j.rest in
    rw (i.is, j.is) (same_args n q)
injective {w} {c} z ns (e_lam {A = A} {A' = A'} {b = b} {b' = b'} {k = m} fresh d e) o p s r h k =
    let x : Tree = local m A in
    let u : OfLam o b = of_lam c s h A b refl in
    let v : OfLam p b' = of_lam c r k A' b' refl in
    let n : SameSpine w (app o x) (app p x) = injective z ns e (app o x) (app p x) s r
    (subst (Longer (app o x)) (sym (opened_inner u.inner b x u.fine u.is)) (under u.rest))
    (subst (Longer (app p x)) (sym (opened_inner v.inner b' x v.fine v.is)) (under v.rest)) in
    same_front n o p x x refl refl
injective z ns (e_eta_left v i u e) o p s r h k = injective z ns e o p s r (longer (well_formed_of_type i).0 h) k
injective z ns (e_eta_right v i u e) o p s r h k = injective z ns e o p s r h (longer (well_formed_of_type i).0 k)
injective {c = c} z ns (e_struct_left i xs v q) o p s r h k = absurd (struct_head i xs z (long_heads c r k))
injective {c = c} z ns (e_struct_right i xs v q) o p s r h k = absurd (struct_head i xs z (long_heads c s h))
injective {c = c} z ns (e_unit i ls bs a b A B v l n ha u hb q) o p s r h k = absurd (no_unit_like i (data_at i.name ls bs (heads_typed z ha (long_heads c s h)) u))
injective {c = c} z ns (e_proof v l ha x hb q) o p s r h k = absurd (heads_no_prop z ha (long_heads c s h) x)
injective {c = c} z ns e_zero_left o p s r h k = absurd (lit_not c 0 o s h)
injective {c = c} z ns e_zero_right o p s r h k = absurd (lit_not c 0 p r k)
injective {c = c} z ns (e_succ_left {n = n} x e) o p s r h k = absurd (lit_not c (suc n) o s h)
injective {c = c} z ns (e_succ_right {n = n} x e) o p s r h k = absurd (lit_not c (suc n) p r k)
injective {c = c} z ns (e_str_left x e) o p s r h k = absurd (long_heads c s h)
injective {c = c} z ns (e_str_right x e) o p s r h k = absurd (long_heads c r k)
injective {c = c} z ns (e_sort x) o p s r h k = absurd (long_heads c s h)
injective {c = c} z ns (e_pi fresh d e) o p s r h k = absurd (long_heads c s h)
injective {c = c} z ns (e_proj e) o p s r h k = absurd (long_heads c s h)

pub same_spine : (w : Place) (c : Name) (a b : Tree) → IsRigid w c → (IsOperation w succ → c ≡ nat_succ → ⊥) → IsDefEq w a b → IsApplied c a → IsApplied c b → SameSpine w a b
same_spine w c a b z ns e s r = injective z ns e a b s r itself itself
