-- What the ideal type of a tree says of its parts and of its Locals.
use Rattle.std.proofs.Common.{ℕ, suc, ◌≡◌, ◌≤◌, inl, inr, refl, arith}
use Rattle.std.specs.Prelude.{false, ◌<◌, ◌||◌}
use Rattle.lk_tree.specs.Tree.{Level, Tree, var, sort, const, app, lam, pi, let_in, proj, lit, wide, str, local}
use Rattle.lk_tree.specs.Bind.{opened, open_at, open_var, bound, has_var}
use Rattle.lk_tree.specs.WellFormed.{IsWellFormedUnder, HasLocal}
use Rattle.lk_tree.proofs.Binding.{Opening, opening, below, at, above}
use Rattle.lk_tree.proofs.Locals.{local_of_open}
use Rattle.std.proofs.lemmas.Bool.{or_parts}
use Rattle.lk_rulebook.specs.Place.{Place}
use Rattle.lk_rulebook.specs.Shapes.{named, nat, HasNat}
use Rattle.lk_declarative.specs.Guarded.{IdealType, IdealEquals, typed_sort, typed_local, typed_const, typed_app, typed_lam, typed_pi, typed_let, typed_lit, typed_str, typed_proj, typed_conv, same_refl, same_sym, same_trans, same_app, same_beta}
use Rattle.lk_declarative.specs.Expected.{LawfulLocals}
use Rattle.lk_declarative.proofs.GuardedScopes.{well_formed_of_type}

pub record AppParts (w : Place) (f a T : Tree) : Type 0 where
  pub domain : Tree
  pub body : Tree
  pub function : IdealType w f (pi domain body)
  pub argument : IdealType w a domain
  pub result : IdealEquals w (opened body a) T

pub record LamParts (w : Place) (A b : Tree) : Type 0 where
  pub level : Level
  pub body : Tree
  pub domain_typed : IdealType w A (sort level)
  pub typed : IdealType w (lam A b) (pi A body)

pub record PiParts (w : Place) (A B : Tree) : Type 0 where
  pub domain_level : Level
  pub level : Level
  pub number : ℕ
  pub above : bound (pi A B) ≤ number
  pub domain_typed : IdealType w A (sort domain_level)
  pub body_typed : IdealType w (opened B (local number A)) (sort level)

pub record LetParts (w : Place) (v b T : Tree) : Type 0 where
  pub type : Tree
  pub body_typed : IdealType w (opened b v) type
  pub result : IdealEquals w type T

pub record LitParts (w : Place) (T : Tree) : Type 0 where
  pub has_nat : HasNat w
  pub result : IdealEquals w (named nat) T

pub record ProjParts (w : Place) (s : Tree) : Type 0 where
  pub type : Tree
  pub typed : IdealType w s type

abbrev pub Parts : Place → Tree → Tree → Type 0
Parts w (app f a) T = AppParts w f a T
Parts w (lam A b) T = LamParts w A b
Parts w (pi A B) T = PiParts w A B
Parts w (let_in A v b) T = LetParts w v b T
Parts w (lit n) T = LitParts w T
Parts w (proj S i s) T = ProjParts w s
Parts w _ T = Unit {0}

converted : {w : Place} (e : Tree) {A B : Tree} → IdealEquals w A B → Parts w e A → Parts w e B
converted (app f a) c p = record { domain = p.domain; body = p.body; function = p.function; argument = p.argument; result = same_trans p.result c }
converted (lam A b) c p = p
converted (pi A B) c p = p
converted (let_in A v b) c p = record { type = p.type; body_typed = p.body_typed; result = same_trans p.result c }
converted (lit n) c p = record { has_nat = p.has_nat; result = same_trans p.result c }
converted (proj S i s) c p = p
converted (var i) c p = tt
converted (sort l) c p = tt
converted (const k ls) c p = tt
converted wide c p = tt
converted (str s) c p = tt
converted (local k T) c p = tt

pub parts : {w : Place} {e T : Tree} → IdealType w e T → Parts w e T
parts typed_sort = tt
parts (typed_local f t) = tt
parts (typed_const g f) = tt
parts (typed_app {A = A} {B = B} f x) = record { domain = A; body = B; function = f; argument = x; result = same_refl (well_formed_of_type (typed_app f x)).1 }
parts (typed_lam {B = B} {l = l} fresh a f) = record { level = l; body = B; domain_typed = a; typed = typed_lam fresh a f }
parts (typed_pi {u = u} {v = v} {k = k} fresh a f) = record { domain_level = u; level = v; number = k; above = fresh.0; domain_typed = a; body_typed = f }
parts (typed_let {B = B} a x f) = record { type = B; body_typed = f; result = same_refl (well_formed_of_type f).1 }
parts (typed_lit h f) = record { has_nat = h; result = same_refl tt }
parts (typed_str h) = tt
parts (typed_proj S e i s p f) = record { type = _; typed = e }
parts (typed_conv {e = e} t c s) = converted e c (parts t)

-- opening keeps the Locals of the body
pub local_kept : (k : ℕ) (T : Tree) (d : ℕ) (v b : Tree) → HasLocal k T b → HasLocal k T (open_at d v b)
unfolding open_at
local_kept k T d v (app f a) (inl h) = inl (local_kept k T d v f h)
local_kept k T d v (app f a) (inr h) = inr (local_kept k T d v a h)
local_kept k T d v (lam A b) (inl h) = inl (local_kept k T d v A h)
local_kept k T d v (lam A b) (inr h) = inr (local_kept k T (suc d) v b h)
local_kept k T d v (pi A b) (inl h) = inl (local_kept k T d v A h)
local_kept k T d v (pi A b) (inr h) = inr (local_kept k T (suc d) v b h)
local_kept k T d v (let_in A a b) (inl h) = inl (local_kept k T d v A h)
local_kept k T d v (let_in A a b) (inr (inl h)) = inr (inl (local_kept k T d v a h))
local_kept k T d v (let_in A a b) (inr (inr h)) = inr (inr (local_kept k T (suc d) v b h))
local_kept k T d v (proj S i s) h = local_kept k T d v s h
local_kept k T d v (local j S) h = h
local_kept k T d v (var i) h = absurd h
local_kept k T d v (sort l) h = absurd h
local_kept k T d v (const c ls) h = absurd h
local_kept k T d v (lit n) h = absurd h
local_kept k T d v wide h = absurd h
local_kept k T d v (str s) h = absurd h

-- a tree that has an ideal type has Locals with sorts
pub lawful : {w : Place} {e T : Tree} → IdealType w e T → LawfulLocals w e
lawful typed_sort k X h = absurd h
lawful (typed_local {k = j} {T = T} {l = l} f t) k X (inl e) = rw (e.1) (l, t)
lawful (typed_local f t) k X (inr h) = lawful t k X h
lawful (typed_const g f) k X h = absurd h
lawful (typed_app f x) k X (inl h) = lawful f k X h
lawful (typed_app f x) k X (inr h) = lawful x k X h
lawful (typed_lam fresh a f) k X (inl h) = lawful a k X h
lawful (typed_lam {A = A} {b = b} {k = n} fresh a f) k X (inr h) = lawful f k X (local_kept k X 0 (local n A) b h)
lawful (typed_pi fresh a f) k X (inl h) = lawful a k X h
lawful (typed_pi {A = A} {B = B} {k = n} fresh a f) k X (inr h) = lawful f k X (local_kept k X 0 (local n A) B h)
lawful (typed_let a x f) k X (inl h) = lawful a k X h
lawful (typed_let a x f) k X (inr (inl h)) = lawful x k X h
lawful (typed_let {v = v} {b = b} a x f) k X (inr (inr h)) = lawful f k X (local_kept k X 0 v b h)
lawful (typed_lit n f) k X h = absurd h
lawful (typed_str n) k X h = absurd h
lawful (typed_proj S e i s p f) k X h = lawful e k X h
lawful (typed_conv t c s) k X h = lawful t k X h

pub lawful_open : {w : Place} (b v : Tree) → LawfulLocals w b → LawfulLocals w v → LawfulLocals w (opened b v)
lawful_open b v f g k X h = elim (local_of_open k X 0 v b h) [ inl x ↦ f k X x | inr x ↦ g k X x ]

-- the body of a Pi as the body of a lambda
pub as_lambda : {w : Place} {A B : Tree} (p : PiParts w A B) → IdealType w (lam A B) (pi A (sort p.level))
unfolding bound open_at
as_lambda p = typed_lam {k = p.number} (omega (arith, p.above), (omega (arith, p.above), tt)) p.domain_typed p.body_typed

-- equal arguments give equal types
pub opened_agree : {w : Place} {A B a m : Tree} → PiParts w A B → IdealType w a A → IdealType w m A → IdealEquals w a m → IdealEquals w (opened B a) (opened B m)
opened_agree p ta tm e =
    let f : _ = as_lambda p in
    same_trans (same_sym (same_beta f ta)) (same_trans (same_app (same_refl (well_formed_of_type f).0) e) (same_beta f tm))

var_closed : (d i : ℕ) (v : Tree) → i < d → Opening d i v → open_var d v i ≡ var i
var_closed d i v h (below l e) = e
var_closed d i v h (at l e) = absurd (omega arith)
var_closed d i v h (above l e) = absurd (omega arith)

-- a tree without the variable is what it is opened to
pub closed_stays : (d : ℕ) (v e : Tree) → IsWellFormedUnder d e → open_at d v e ≡ e
unfolding open_at
closed_stays d v (var i) f = var_closed d i v f (opening d i v)
closed_stays d v (sort l) f = refl
closed_stays d v (const c ls) f = refl
closed_stays d v (app g a) f = rw (closed_stays d v g f.0, closed_stays d v a f.1) refl
closed_stays d v (lam A b) f = rw (closed_stays d v A f.0, closed_stays (suc d) v b f.1) refl
closed_stays d v (pi A b) f = rw (closed_stays d v A f.0, closed_stays (suc d) v b f.1) refl
closed_stays d v (let_in A a b) f = rw (closed_stays d v A f.0, closed_stays d v a f.1, closed_stays (suc d) v b f.2) refl
closed_stays d v (proj S i s) f = rw (closed_stays d v s f) refl
closed_stays d v (lit n) f = refl
closed_stays d v wide f = refl
closed_stays d v (str s) f = refl
closed_stays d v (local k T) f = refl

-- where the variable does not occur, it is one what is put in for it
pub unused : (d : ℕ) (v u b : Tree) → has_var d b ≡ false → open_at d v b ≡ open_at d u b
unfolding open_at
unused d v u (var i) h = rw h refl
unused d v u (sort l) h = refl
unused d v u (const c ls) h = refl
unused d v u (app g a) h = let p : _ = or_parts (has_var d g) (has_var d a) h in rw (unused d v u g p.0, unused d v u a p.1) refl
unused d v u (lam A b) h = let p : _ = or_parts (has_var d A) (has_var (suc d) b) h in rw (unused d v u A p.0, unused (suc d) v u b p.1) refl
unused d v u (pi A b) h = let p : _ = or_parts (has_var d A) (has_var (suc d) b) h in rw (unused d v u A p.0, unused (suc d) v u b p.1) refl
unused d v u (let_in A a b) h =
    let p : _ = or_parts (has_var d A) (has_var d a || has_var (suc d) b) h in
    let q : _ = or_parts (has_var d a) (has_var (suc d) b) p.1 in
    rw (unused d v u A p.0, unused d v u a q.0, unused (suc d) v u b q.1) refl
unused d v u (proj S i s) h = rw (unused d v u s h) refl
unused d v u (lit n) h = refl
unused d v u wide h = refl
unused d v u (str s) h = refl
unused d v u (local k T) h = refl
