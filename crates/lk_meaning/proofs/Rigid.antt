-- Trees with different rigid constants at their heads are never equal, and none equals a Sort or a Pi.
use Rattle.std.proofs.Common.{true, Option, ℕ, zero, suc, ◌≡◌, Some, List, [], ◌∷◌, ◌++◌, refl, sym, subst, ◌∙◌, ap, arith}
use Rattle.lk_tree.specs.Tree.{Name, Level, zero_level, succ_level, max_level, imax_level, param, Tree, var, sort, const, app, lam, pi, let_in, proj, lit, wide, str, local}
use Rattle.lk_tree.specs.Level.{SameLevel, level_value, imax}
use Rattle.lk_tree.specs.Levels.{put_levels, put_in_level, level_for}
use Rattle.lk_tree.specs.Spine.{apply}
use Rattle.lk_tree.specs.Bind.{open_at, open_var}
use Rattle.lk_tree.proofs.Binding.{Opening, below, at, above, opening}
use Rattle.lk_rulebook.specs.Place.{Place, Entry, Block, BlockType, Ctor, Kind, a_type, a_ctor, a_rec, a_def, a_thm, an_axiom, an_opaque, a_quot}
use Rattle.lk_rulebook.specs.Structures.{UnitLike, StructureAt, structure_value, RecApp}
use Rattle.lk_tree.specs.Operations.{Op, succ, log2, add, sub, mul, div, modulo, gcd, beq, ble, land, lor, xor, shift_left, shift_right, pow, Value, number, op_value}
use Rattle.lk_rulebook.specs.Names.{named, op_name}
use Rattle.lk_rulebook.specs.Literals.{by_def, may_give, IsOperation, IsResult, a_number, a_truth}
use Rattle.lk_rulebook.specs.Quotients.{IsQuot}
use Rattle.lk_rulebook.specs.Shapes.{HasNat, nat, nat_succ}
use Rattle.lk_rulebook.specs.Formers.{IsFormer}
use Rattle.lk_rulebook.proofs.Sorts.{former_stays, former_typed, sort_is_no_prop}
use Rattle.lk_rulebook.specs.Rules.{HasValue, of_def, of_thm, IsGivenAt, HasType, t_sort, t_local, t_const, t_app, t_lam, t_pi, t_let, t_lit, t_str, t_proj, HasSort, has_sort, IsProposition, is_prop, Reduces, r_refl, r_trans, r_head, r_beta, r_zeta, r_delta, r_proj, r_major, r_iota, r_k, r_struct, r_quot_lift, r_quot_ind, r_op, IsDefEq, e_refl, e_reduce, e_sort, e_const, e_app, e_lam, e_pi, e_proj, e_eta_left, e_eta_right, e_struct_left, e_struct_right, e_unit, e_proof, e_zero_left, e_zero_right, e_succ_left, e_succ_right, e_str_left, e_str_right}
use Rattle.lk_meaning.specs.Rigid.{Heads, IsApplied, EndsInType, IsDataName, IsDataType, IsRigid}

pub heads_applied : (c : Name) (h : Tree) (xs : List Tree) → Heads c (apply h xs) → Heads c h
heads_applied c h [] f = f
heads_applied c h (a ∷ xs) f = heads_applied c (app h a) xs f

pub applied_heads : (c : Name) (o : Tree) → IsApplied c o → Heads c o
applied_heads c (app f a) s = applied_heads c f s
applied_heads c (const d ls) s = s
applied_heads c (var i) s = absurd s
applied_heads c (sort l) s = absurd s
applied_heads c (lam A b) s = absurd s
applied_heads c (pi A B) s = absurd s
applied_heads c (let_in A a b) s = absurd s
applied_heads c (proj S i t) s = absurd s
applied_heads c (lit n) s = absurd s
applied_heads c wide s = absurd s
applied_heads c (str t) s = absurd s
applied_heads c (local k T) s = absurd s

pub applied_is : (c : Name) (h : Tree) (xs : List Tree) → IsApplied c h → IsApplied c (apply h xs)
applied_is c h [] f = f
applied_is c h (a ∷ xs) f = applied_is c (app h a) xs f

pub heads_open : (c : Name) (d : ℕ) (v b : Tree) → Heads c b → Heads c (open_at d v b)
unfolding open_at
heads_open c d v (app f a) h = heads_open c d v f h
heads_open c d v (lam A b) h = heads_open c (suc d) v b h
heads_open c d v (const k ls) h = h
heads_open c d v (lit zero) h = h
heads_open c d v (lit (suc n)) h = h
heads_open c d v (var i) h = absurd h
heads_open c d v (sort l) h = absurd h
heads_open c d v (pi A B) h = absurd h
heads_open c d v (let_in A a b) h = absurd h
heads_open c d v (proj S i s) h = absurd h
heads_open c d v wide h = absurd h
heads_open c d v (str s) h = absurd h
heads_open c d v (local k T) h = absurd h

heads_one : (c d : Name) (a : Tree) → Heads c a → Heads d a → c ≡ d
heads_one c d (app f a) h k = heads_one c d f h k
heads_one c d (lam A b) h k = heads_one c d b h k
heads_one c d (const e ls) h k = cc
heads_one c d (lit zero) h k = cc
heads_one c d (lit (suc n)) h k = cc
heads_one c d (var i) h k = absurd h
heads_one c d (sort l) h k = absurd h
heads_one c d (pi A B) h k = absurd h
heads_one c d (let_in A a b) h k = absurd h
heads_one c d (proj S i s) h k = absurd h
heads_one c d wide h k = absurd h
heads_one c d (str s) h k = absurd h
heads_one c d (local k T) h m = absurd h

applied_open : (J : Name) (d : ℕ) (v T : Tree) → IsApplied J T → IsApplied J (open_at d v T)
unfolding open_at
applied_open J d v (app f a) h = applied_open J d v f h
applied_open J d v (const k ls) h = h
applied_open J d v (var i) h = absurd h
applied_open J d v (sort l) h = absurd h
applied_open J d v (lam A b) h = absurd h
applied_open J d v (pi A B) h = absurd h
applied_open J d v (let_in A a b) h = absurd h
applied_open J d v (proj S i s) h = absurd h
applied_open J d v (lit n) h = absurd h
applied_open J d v wide h = absurd h
applied_open J d v (str s) h = absurd h
applied_open J d v (local k T) h = absurd h

no_applied_var : (J : Name) (d i k : ℕ) (A : Tree) → Opening d i (local k A) → IsApplied J (open_var d (local k A) i) → ⊥
no_applied_var J d i k A (below l e) h = subst (IsApplied J) e h
no_applied_var J d i k A (at l e) h = subst (IsApplied J) e h
no_applied_var J d i k A (above l e) h = subst (IsApplied J) e h

applied_from : (J : Name) (d k : ℕ) (A T : Tree) → IsApplied J (open_at d (local k A) T) → IsApplied J T
unfolding open_at
applied_from J d k A (app f a) h = applied_from J d k A f h
applied_from J d k A (const c ls) h = h
applied_from J d k A (var i) h = absurd (no_applied_var J d i k A (opening d i (local k A)) h)
applied_from J d k A (sort l) h = absurd h
applied_from J d k A (lam B b) h = absurd h
applied_from J d k A (pi B C) h = absurd h
applied_from J d k A (let_in B a b) h = absurd h
applied_from J d k A (proj S i s) h = absurd h
applied_from J d k A (lit n) h = absurd h
applied_from J d k A wide h = absurd h
applied_from J d k A (str s) h = absurd h
applied_from J d k A (local j T) h = absurd h

applied_put : (J : Name) (ps : List Name) (ls : List Level) (T : Tree) → IsApplied J T → IsApplied J (put_levels ps ls T)
unfolding put_levels
applied_put J ps ls (app f a) h = applied_put J ps ls f h
applied_put J ps ls (const c ms) h = h
applied_put J ps ls (var i) h = absurd h
applied_put J ps ls (sort l) h = absurd h
applied_put J ps ls (lam A b) h = absurd h
applied_put J ps ls (pi A B) h = absurd h
applied_put J ps ls (let_in A a b) h = absurd h
applied_put J ps ls (proj S i s) h = absurd h
applied_put J ps ls (lit n) h = absurd h
applied_put J ps ls wide h = absurd h
applied_put J ps ls (str s) h = absurd h
applied_put J ps ls (local k T) h = absurd h

applied_one : (J K : Name) (T : Tree) → IsApplied J T → IsApplied K T → J ≡ K
applied_one J K (app f a) h m = applied_one J K f h m
applied_one J K (const c ms) h m = cc
applied_one J K (var i) h m = absurd h
applied_one J K (sort l) h m = absurd h
applied_one J K (lam A b) h m = absurd h
applied_one J K (pi A B) h m = absurd h
applied_one J K (let_in A a b) h m = absurd h
applied_one J K (proj S i s) h m = absurd h
applied_one J K (lit n) h m = absurd h
applied_one J K wide h m = absurd h
applied_one J K (str s) h m = absurd h
applied_one J K (local k T) h m = absurd h

-- data types
pub data_open : (w : Place) (d : ℕ) (v T : Tree) → IsDataType w T → IsDataType w (open_at d v T)
unfolding open_at
data_open w d v (pi A B) h = data_open w (suc d) v B h
data_open w d v (sort l) h = h
data_open w d v (app f a) h = (h.0, h.1, applied_open h.0 d v f h.2)
data_open w d v (const k ls) h = h
data_open w d v (var i) h = absurd h
data_open w d v (lam A b) h = absurd h
data_open w d v (let_in A a b) h = absurd h
data_open w d v (proj S i s) h = absurd h
data_open w d v (lit n) h = absurd h
data_open w d v wide h = absurd h
data_open w d v (str s) h = absurd h
data_open w d v (local k T) h = absurd h

no_data_var : (w : Place) (d i k : ℕ) (A : Tree) → Opening d i (local k A) → IsDataType w (open_var d (local k A) i) → ⊥
no_data_var w d i k A (below l e) h = subst (IsDataType w) e h
no_data_var w d i k A (at l e) h = subst (IsDataType w) e h
no_data_var w d i k A (above l e) h = subst (IsDataType w) e h

pub data_from : (w : Place) (d k : ℕ) (A T : Tree) → IsDataType w (open_at d (local k A) T) → IsDataType w T
unfolding open_at
data_from w d k A (pi B C) h = data_from w (suc d) k A C h
data_from w d k A (sort l) h = h
data_from w d k A (app f a) h = (h.0, h.1, applied_from h.0 d k A f h.2)
data_from w d k A (const c ls) h = h
data_from w d k A (var i) h = absurd (no_data_var w d i k A (opening d i (local k A)) h)
data_from w d k A (lam B b) h = absurd h
data_from w d k A (let_in B a b) h = absurd h
data_from w d k A (proj S i s) h = absurd h
data_from w d k A (lit n) h = absurd h
data_from w d k A wide h = absurd h
data_from w d k A (str s) h = absurd h
data_from w d k A (local j T) h = absurd h

data_put : (w : Place) (ps : List Name) (ls : List Level) (T : Tree) → IsDataType w T → IsDataType w (put_levels ps ls T)
unfolding put_levels
data_put w ps ls (pi A B) h = data_put w ps ls B h
data_put w ps ls (sort l) h = tt
data_put w ps ls (app f a) h = (h.0, h.1, applied_put h.0 ps ls f h.2)
data_put w ps ls (const k ms) h = h
data_put w ps ls (var i) h = absurd h
data_put w ps ls (lam A b) h = absurd h
data_put w ps ls (let_in A a b) h = absurd h
data_put w ps ls (proj S i s) h = absurd h
data_put w ps ls (lit n) h = absurd h
data_put w ps ls wide h = absurd h
data_put w ps ls (str s) h = absurd h
data_put w ps ls (local k T) h = absurd h

data_name : (w : Place) (J : Name) (T : Tree) → IsApplied J T → IsDataType w T → IsDataName w J
data_name w J (app f a) h m = subst (IsDataName w) (applied_one m.0 J f m.2 h) m.1
data_name w J (const c ls) h m = subst (IsDataName w) (m.2 ∙ sym h) m.1
data_name w J (var i) h m = absurd h
data_name w J (sort l) h m = absurd h
data_name w J (lam A b) h m = absurd h
data_name w J (pi A B) h m = absurd h
data_name w J (let_in A a b) h m = absurd h
data_name w J (proj S i s) h m = absurd h
data_name w J (lit n) h m = absurd h
data_name w J wide h m = absurd h
data_name w J (str s) h m = absurd h
data_name w J (local k T) h m = absurd h

-- levels put keep a Sort above Prop
put_value : (σ : Name → ℕ) (ps : List Name) (ls : List Level) (l : Level) → level_value σ (put_in_level ps ls l) ≡ level_value (λ n. level_value σ (level_for ps ls n)) l
unfolding put_in_level
put_value σ ps ls zero_level = refl
put_value σ ps ls (succ_level l) = ap suc (put_value σ ps ls l)
put_value σ ps ls (max_level l m) = rw (put_value σ ps ls l, put_value σ ps ls m) refl
put_value σ ps ls (imax_level l m) = rw (put_value σ ps ls l, put_value σ ps ls m) refl
put_value σ ps ls (param n) = refl

ends_put : (ps : List Name) (ls : List Level) (T : Tree) → EndsInType T → EndsInType (put_levels ps ls T)
unfolding put_levels
ends_put ps ls (pi A B) h = ends_put ps ls B h
ends_put ps ls (sort l) h = λ σ e. h (λ n. level_value σ (level_for ps ls n)) (sym (put_value σ ps ls l) ∙ e)
ends_put ps ls (var i) h = absurd h
ends_put ps ls (const k ms) h = absurd h
ends_put ps ls (app f a) h = absurd h
ends_put ps ls (lam A b) h = absurd h
ends_put ps ls (let_in A a b) h = absurd h
ends_put ps ls (proj S i s) h = absurd h
ends_put ps ls (lit n) h = absurd h
ends_put ps ls wide h = absurd h
ends_put ps ls (str s) h = absurd h
ends_put ps ls (local k T) h = absurd h

ends_open : (d : ℕ) (v T : Tree) → EndsInType T → EndsInType (open_at d v T)
unfolding open_at
ends_open d v (pi A B) h = ends_open (suc d) v B h
ends_open d v (sort l) h = h
ends_open d v (var i) h = absurd h
ends_open d v (const k ms) h = absurd h
ends_open d v (app f a) h = absurd h
ends_open d v (lam A b) h = absurd h
ends_open d v (let_in A a b) h = absurd h
ends_open d v (proj S i s) h = absurd h
ends_open d v (lit n) h = absurd h
ends_open d v wide h = absurd h
ends_open d v (str s) h = absurd h
ends_open d v (local k T) h = absurd h

ends_former : (T : Tree) → EndsInType T → IsFormer T
ends_former (pi A B) h = tt
ends_former (sort l) h = tt
ends_former (var i) h = absurd h
ends_former (const k ms) h = absurd h
ends_former (app f a) h = absurd h
ends_former (lam A b) h = absurd h
ends_former (let_in A a b) h = absurd h
ends_former (proj S i s) h = absurd h
ends_former (lit n) h = absurd h
ends_former wide h = absurd h
ends_former (str s) h = absurd h
ends_former (local k T) h = absurd h

-- one name means one entry
one_entry : (w : Place) {c d : Name} {g h : Entry} → c ≡ d → w.means c ≡ Some g → w.means d ≡ Some h → g ≡ h
one_entry w e i j = cc

type_no_value : (g : Entry) (b : Block) (i : BlockType) → g.kind ≡ a_type b i → (v : Tree) → HasValue g v → ⊥
type_no_value g b i e v (of_def f) = absurd cc
type_no_value g b i e v (of_thm f) = absurd cc

type_no_rec : (g : Entry) (b : Block) (i : BlockType) → g.kind ≡ a_type b i → (r : _) → g.kind ≡ a_rec r → ⊥
type_no_rec g b i e r f = absurd cc

-- J means a type
pub record IsTypeName (w : Place) (J : Name) : Type 0 where
  pub entry : Entry
  pub block : Block
  pub own : BlockType
  pub given : w.means J ≡ Some entry
  pub kind : entry.kind ≡ a_type block own

data_type_name : {w : Place} {J : Name} → IsDataName w J → IsTypeName w J
data_type_name s = record { entry = s.entry; block = s.block; own = s.own; given = s.given; kind = s.kind }

-- a type is no recursor
pub applied_of : (J : Name) (h : Tree) (xs : List Tree) → IsApplied J (apply h xs) → IsApplied J h
applied_of J h [] f = f
applied_of J h (a ∷ xs) f = applied_of J (app h a) xs f

stuck : {w : Place} {J : Name} → IsTypeName w J → (R : RecApp w) → IsApplied J (apply (const R.name R.levels) R.front) → ⊥
stuck {w} {J = J} s R h = type_no_rec R.entry s.block s.own (ap (λ x. x.kind) (one_entry w (sym (applied_of J (const R.name R.levels) R.front h)) R.given s.given) ∙ s.kind) R.recursor R.kind

-- a type is no operation, and no quotient's constant
type_gives_none : (op : Op) (b : Block) (i : BlockType) → may_give op (a_type b i) ≡ true → ⊥
type_gives_none succ b i h = absurd cc
type_gives_none _ b i h = absurd cc

no_operation : {w : Place} {J : Name} → IsTypeName w J → (op : Op) (es : List Tree) → IsOperation w op → IsApplied J (apply (named (op_name op)) es) → ⊥
no_operation {w} {J} s op es o h =
    let i : J ≡ op_name op = applied_of J (named (op_name op)) es h in
    type_gives_none op s.block s.own (subst (λ k. may_give op k ≡ true) (ap (λ x. x.kind) (one_entry w (sym i) o.given s.given) ∙ s.kind) o.kind)

type_no_quot : (g : Entry) (b : Block) (i : BlockType) → g.kind ≡ a_type b i → g.kind ≡ a_quot → ⊥
type_no_quot g b i e f = absurd cc

no_quot : {w : Place} {J q : Name} → IsTypeName w J → IsQuot w q → J ≡ q → ⊥
no_quot {w} s o h = type_no_quot o.entry s.block s.own (ap (λ x. x.kind) (one_entry w (sym h) o.given s.given) ∙ s.kind) o.kind

-- what a type applied reduces to is itself
pub applied_stays : {w : Place} {J : Name} → IsTypeName w J → {a b : Tree} → Reduces w a b → IsApplied J a → a ≡ b
applied_stays s (r_refl f) h = refl
applied_stays {J = J} s (r_trans c d) h = applied_stays s c h ∙ applied_stays s d (subst (IsApplied J) (applied_stays s c h) h)
applied_stays s (r_head {a = a} c f) h = ap (λ g. app g a) (applied_stays s c h)
applied_stays s (r_beta f) h = absurd h
applied_stays s (r_zeta f) h = absurd h
applied_stays {w} s (r_delta {v = v} g y f) h = absurd (type_no_value g.entry s.block s.own (ap (λ x. x.kind) (one_entry w (sym h) g.given s.given) ∙ s.kind) v y)
applied_stays s (r_proj c r y i f) h = absurd h
applied_stays {J = J} s (r_major R r y) h = absurd (stuck s R h)
applied_stays s (r_iota R c i f g) h = absurd (stuck s R h)
applied_stays s (r_quot_lift ls ks q m f e) h = absurd (no_quot s q h)
applied_stays s (r_quot_ind ls ks q m f e) h = absurd (no_quot s q h)
applied_stays s (r_op op es ns r o n l v y) h = absurd (no_operation s op es o h)
applied_stays s (r_k R k he hr hd q) h = absurd (stuck s R h)
applied_stays s (r_struct R t i x r p) h = absurd (stuck s R h)

pub data_stays : (w : Place) (T U : Tree) → IsDataType w T → Reduces w T U → T ≡ U
data_stays w (pi A B) U h r = former_stays r tt
data_stays w (sort l) U h r = former_stays r tt
data_stays w (app f a) U h r = applied_stays (data_type_name h.1) r h.2
data_stays w (const c ls) U h r = applied_stays (data_type_name h.1) r h.2
data_stays w (var i) U h r = absurd h
data_stays w (lam A b) U h r = absurd h
data_stays w (let_in A a b) U h r = absurd h
data_stays w (proj S i s) U h r = absurd h
data_stays w (lit n) U h r = absurd h
data_stays w wide U h r = absurd h
data_stays w (str s) U h r = absurd h
data_stays w (local k T) U h r = absurd h

-- the type of a type applied is Pis that end in a Sort above Prop
applied_type : {w : Place} {J : Name} {e A : Tree} → IsDataName w J → HasType w e A → IsApplied J e → EndsInType A
applied_type {w} s (t_const {ls = ls} g f) h = ends_put g.entry.levels ls g.entry.type (subst (λ x. EndsInType x.type) (one_entry w h s.given g.given) s.above_prop)
applied_type s (t_app {a = a} {F = F} {A = A} {B = B} f r x q) h =
    let i : EndsInType F = applied_type s f h in
    let e : F ≡ pi A B = former_stays r (ends_former F i) in
    ends_open 0 a B (subst EndsInType e i)
applied_type s t_sort h = absurd h
applied_type s (t_local f) h = absurd h
applied_type s (t_lam fresh a f) h = absurd h
applied_type s (t_pi fresh a f) h = absurd h
applied_type s (t_let a x q f) h = absurd h
applied_type s (t_lit x f) h = absurd h
applied_type s (t_str x) h = absurd h
applied_type s (t_proj S e r q d p v) h = absurd h

sort_ends : (l : Level) (S : Tree) → S ≡ sort l → EndsInType S → SameLevel l zero_level → ⊥
sort_ends l S e h z = subst EndsInType e h (λ n. 0) (z (λ n. 0))

imax_zero : (a b : ℕ) → imax a b ≡ 0 → b ≡ 0
imax_zero a zero h = refl
imax_zero a (suc b) h = omega arith

sort_level : (l m : Level) → sort l ≡ sort m → l ≡ m
sort_level l m e = cc

applied_no_prop : {w : Place} {J : Name} {T S : Tree} {l : Level} → IsDataName w J → HasType w T S → IsApplied J T → Reduces w S (sort l) → SameLevel l zero_level → ⊥
applied_no_prop {S = S} {l = l} s t h r z =
    let i : EndsInType S = applied_type s t h in
    sort_ends l S (former_stays r (ends_former S i)) i z

body_zero : (u v l : Level) → imax_level u v ≡ l → SameLevel l zero_level → SameLevel v zero_level
body_zero u v l e z σ = imax_zero (level_value σ u) (level_value σ v) (ap (level_value σ) e ∙ z σ)

above_zero : (l m : Level) → succ_level l ≡ m → SameLevel m zero_level → ⊥
above_zero l m e z =
    let i : suc (level_value (λ n. 0) l) ≡ 0 = ap (level_value (λ n. 0)) e ∙ z (λ n. 0) in
    absurd (omega arith)

-- a data type is no proposition
mutual
  data_no_prop : {w : Place} {T : Tree} {l : Level} → HasSort w T l → IsDataType w T → SameLevel l zero_level → ⊥
  data_no_prop (has_sort t r) d z = typed_no_prop t d r z

  typed_no_prop : {w : Place} {T S : Tree} {l : Level} → HasType w T S → IsDataType w T → Reduces w S (sort l) → SameLevel l zero_level → ⊥
  typed_no_prop {l = l} (t_sort {l = m}) d r z = above_zero m l (sort_level (succ_level m) l (former_stays r tt)) z
  typed_no_prop {w} {l = l} (t_pi {A = A} {B = B} {u = u} {v = v} {k = k} fresh a f) d r z =
      data_no_prop f (data_open w 0 (local k A) B d) (body_zero u v l (sort_level (imax_level u v) l (former_stays r tt)) z)
  typed_no_prop (t_const g f) d r z = applied_no_prop d.1 (t_const g f) d.2 r z
  typed_no_prop (t_app f p x q) d r z = applied_no_prop d.1 (t_app f p x q) d.2 r z
  typed_no_prop (t_local f) d r z = absurd d
  typed_no_prop (t_lam fresh a f) d r z = absurd d
  typed_no_prop (t_let a x q f) d r z = absurd d
  typed_no_prop (t_lit x f) d r z = absurd d
  typed_no_prop (t_str x) d r z = absurd d
  typed_no_prop (t_proj S e y q f x v) d r z = absurd d

pub data_no_proposition : {w : Place} {T : Tree} → IsProposition w T → IsDataType w T → ⊥
data_no_proposition (is_prop i z) d = data_no_prop i d z

-- what has a rigid head reduces to what has it
pub rigid_value : {w : Place} {c d : Name} {ls : List Level} {v : Tree} → IsRigid w c → c ≡ d → (g : IsGivenAt w d ls) → HasValue g.entry v → ⊥
rigid_value {w} {v = v} s e g y = s.no_value v (subst (λ x. HasValue x v) (one_entry w (sym e) g.given s.given) y)

pub rigid_rec : {w : Place} {c : Name} → IsRigid w c → (R : RecApp w) → Heads c (apply (const R.name R.levels) R.front) → ⊥
rigid_rec {w} {c} s R h = s.no_recursor R.recursor (ap (λ x. x.kind) (one_entry w (heads_applied c (const R.name R.levels) R.front h) s.given R.given) ∙ R.kind)

pub rigid_quot : {w : Place} {c q : Name} → IsRigid w c → IsQuot w q → c ≡ q → ⊥
rigid_quot {w} s o h = s.no_quotient (ap (λ x. x.kind) (one_entry w h s.given o.given) ∙ o.kind)

def_value : (g : Entry) (k : Kind) → g.kind ≡ k → by_def k ≡ true → ((v : Tree) → HasValue g v → ⊥) → ⊥
def_value g (a_def d v) e f h = h v (of_def e)
def_value g an_axiom e f h = absurd cc
def_value g (a_thm v) e f h = absurd cc
def_value g (an_opaque v) e f h = absurd cc
def_value g a_quot e f h = absurd cc
def_value g (a_type b i) e f h = absurd cc
def_value g (a_ctor b i c) e f h = absurd cc
def_value g (a_rec r) e f h = absurd cc

-- the only operation that a rigid constant is is the successor
pub only_succ : {w : Place} {c : Name} → IsRigid w c → (op : Op) → IsOperation w op → c ≡ op_name op → op ≡ succ
only_succ {w} {c} s op o h = go op (o.kind)
  where
    e : o.entry ≡ s.entry
    e = one_entry w (sym h) o.given s.given

    none : by_def o.entry.kind ≡ true → ⊥
    none f = def_value s.entry o.entry.kind (ap (λ x. x.kind) (sym e)) f s.no_value

    go : (q : Op) → may_give q o.entry.kind ≡ true → q ≡ succ
    go succ f = refl
    go log2 f = absurd (none f)
    go add f = absurd (none f)
    go sub f = absurd (none f)
    go mul f = absurd (none f)
    go div f = absurd (none f)
    go modulo f = absurd (none f)
    go gcd f = absurd (none f)
    go beq f = absurd (none f)
    go ble f = absurd (none f)
    go land f = absurd (none f)
    go lor f = absurd (none f)
    go xor f = absurd (none f)
    go shift_left f = absurd (none f)
    go shift_right f = absurd (none f)
    go pow f = absurd (none f)

heads_lit : (c : Name) (n m : ℕ) → n ≡ suc m → c ≡ nat_succ → Heads c (lit n)
heads_lit c n m e h = subst (λ k. Heads c (lit k)) (sym e) h

succ_result : {w : Place} (c : Name) {o : Option Value} {r : Tree} → IsResult w o r → (ns : List ℕ) → o ≡ op_value succ ns → c ≡ nat_succ → Heads c r
succ_result c (a_number f) [] e h = absurd cc
succ_result c (a_number {n = n} f) (a ∷ []) e h = heads_lit c n a (number_is n (suc a) e) h
  where
    number_is : (n m : ℕ) → Some (number n) ≡ Some (number m) → n ≡ m
    number_is n m e = cc
succ_result c (a_number f) (a ∷ b ∷ cs) e h = absurd cc
succ_result c (a_truth g) [] e h = absurd cc
succ_result c (a_truth g) (a ∷ []) e h = absurd cc
succ_result c (a_truth g) (a ∷ b ∷ cs) e h = absurd cc

heads_op : {w : Place} {c : Name} → IsRigid w c → (op : Op) (es : List Tree) (ns : List ℕ) (r : Tree) → IsOperation w op → IsResult w (op_value op ns) r → Heads c (apply (named (op_name op)) es) → Heads c r
heads_op {w} {c} s op es ns r o y h =
    let i : c ≡ op_name op = heads_applied c (named (op_name op)) es h in
    let j : op ≡ succ = only_succ s op o i in
    succ_result c y ns (ap (λ q. op_value q ns) j) (i ∙ ap op_name j)

pub heads_stay : {w : Place} {c : Name} → IsRigid w c → {a b : Tree} → Reduces w a b → Heads c a → Heads c b
heads_stay s (r_refl f) h = h
heads_stay s (r_trans p q) h = heads_stay s q (heads_stay s p h)
heads_stay s (r_head p f) h = heads_stay s p h
heads_stay {c = c} s (r_beta {b = b} {a = a} f) h = heads_open c 0 a b h
heads_stay s (r_zeta f) h = absurd h
heads_stay s (r_delta g y f) h = absurd (rigid_value s h g y)
heads_stay s (r_proj c r y i f) h = absurd h
heads_stay s (r_major R r y) h = h
heads_stay s (r_iota R c i f g) h = absurd (rigid_rec s R h)
heads_stay s (r_quot_lift ls ks q m f e) h = absurd (rigid_quot s q h)
heads_stay s (r_quot_ind ls ks q m f e) h = absurd (rigid_quot s q h)
heads_stay s (r_op op es ns r o n l v y) h = heads_op s op es ns r o y h
heads_stay s (r_k R k he hr hd q) h = h
heads_stay s (r_struct R t i x r p) h = h

one_above : (l : Level) (T : Tree) → T ≡ sort l → SameLevel l (succ_level zero_level) → EndsInType T
one_above l T e h = subst EndsInType (sym e) (λ σ z. absurd (let i : level_value σ l ≡ 1 = h σ in omega arith))

two_not_one : (x y z : Ctor) (cs : List Ctor) → cs ≡ x ∷ y ∷ [] → cs ≡ z ∷ [] → ⊥
two_not_one x y z cs e f = absurd cc

nat_data : {w : Place} → HasNat w → IsDataName w nat
nat_data h = record {
  entry = h.entry;
  block = h.block;
  own = h.inductive;
  given = h.given;
  kind = h.kind;
  above_prop = one_above h.level h.entry.type h.type h.level_is_one;
  no_unit = λ x e z. two_not_one h.zero_ctor h.succ_ctor x h.inductive.ctors h.ctors e;
}

-- the type of what has a rigid head is a data type
pub heads_typed : {w : Place} {c : Name} {e A : Tree} → IsRigid w c → HasType w e A → Heads c e → IsDataType w A
heads_typed {w} s (t_const {ls = ls} g f) h = data_put w g.entry.levels ls g.entry.type (subst (λ x. IsDataType w x.type) (one_entry w h s.given g.given) s.type)
heads_typed {w} s (t_app {a = a} {F = F} {A = A} {B = B} f r x q) h =
    let i : IsDataType w F = heads_typed s f h in
    data_open w 0 a B (subst (IsDataType w) (data_stays w F (pi A B) i r) i)
heads_typed {w} {c} s (t_lam {A = A} {b = b} {B = B} {k = k} fresh a f) h = data_from w 0 k A B (heads_typed s f (heads_open c 0 (local k A) b h))
heads_typed s (t_lit x f) h = (nat, nat_data x, refl)
heads_typed s (t_str x) h = absurd h
heads_typed s t_sort h = absurd h
heads_typed s (t_local f) h = absurd h
heads_typed s (t_pi fresh a f) h = absurd h
heads_typed s (t_let a x q f) h = absurd h
heads_typed s (t_proj S e r q d p v) h = absurd h

pub heads_no_prop : {w : Place} {c : Name} {e A : Tree} → IsRigid w c → HasType w e A → Heads c e → IsProposition w A → ⊥
heads_no_prop s t h p = data_no_proposition p (heads_typed s t h)

-- a data type that reduces to J applied is J applied
pub data_at : {w : Place} {A : Tree} (J : Name) (ls : List Level) (bs : List Tree) → IsDataType w A → Reduces w A (apply (const J ls) bs) → IsDataName w J
data_at {w} {A} J ls bs d r =
    data_name w J (apply (const J ls) bs) (applied_is J (const J ls) bs refl) (subst (IsDataType w) (data_stays w A (apply (const J ls) bs) d r) d)

own_type : (b c : Block) (t u : BlockType) → a_type b t ≡ a_type c u → t ≡ u
own_type b c t u e = cc

pub no_unit_like : {w : Place} (U : UnitLike w) → IsDataName w U.name → ⊥
no_unit_like {w} U s =
    let e : s.own ≡ U.ind = own_type s.block U.block s.own U.ind (sym s.kind ∙ (ap (λ x. x.kind) (one_entry w refl s.given U.given) ∙ U.kind)) in
    s.no_unit U.ctor (ap (λ t. t.ctors) e ∙ U.one_ctor) U.no_fields

pub struct_head : {w : Place} {c : Name} (S : StructureAt w) (xs : List Tree) → IsRigid w c → Heads c (structure_value S xs) → ⊥
struct_head {w} {c} S xs s h = s.no_structure S.structure (sym (heads_applied c (const S.structure.ctor_name S.levels) (S.params ++ xs) h))

pub one_head : {w : Place} {c d : Name} {a b : Tree} → IsRigid w c → IsRigid w d → IsDefEq w a b → Heads c a → Heads d b → c ≡ d
one_head {c = c} {d = d} s t (e_refl {a = a} x) h k = heads_one c d a h k
one_head s t (e_reduce p q e) h k = one_head s t e (heads_stay s p h) (heads_stay t q k)
one_head s t (e_const x) h k = h ∙ sym k
one_head s t (e_app u v e f) h k = one_head s t e h k
one_head {c = c} {d = d} s t (e_lam {A = A} {b = b} {b' = b'} {k = n} fresh e f) h k = one_head s t f (heads_open c 0 (local n A) b h) (heads_open d 0 (local n A) b' k)
one_head s t (e_eta_left v i r e) h k = one_head s t e h k
one_head s t (e_eta_right v i r e) h k = one_head s t e h k
one_head s t (e_struct_left i xs v q) h k = absurd (struct_head i xs t k)
one_head s t (e_struct_right i xs v q) h k = absurd (struct_head i xs s h)
one_head s t (e_unit i ls bs a b A B u v n ha r hb q) h k = absurd (no_unit_like i (data_at i.name ls bs (heads_typed s ha h) r))
one_head s t (e_proof u v ha p hb q) h k = absurd (heads_no_prop s ha h p)
one_head s t e_zero_left h k = h ∙ sym k
one_head s t e_zero_right h k = h ∙ sym k
one_head s t (e_succ_left x e) h k = h ∙ sym k
one_head s t (e_succ_right x e) h k = h ∙ sym k
one_head s t (e_str_left x e) h k = absurd h
one_head s t (e_str_right x e) h k = absurd k
one_head s t (e_sort x) h k = absurd h
one_head s t (e_pi fresh e f) h k = absurd h
one_head s t (e_proj e) h k = absurd h

-- Sorts and Pis
former_no_heads : (c : Name) (a : Tree) → IsFormer a → Heads c a → ⊥
former_no_heads c (sort l) f h = h
former_no_heads c (pi A B) f h = h
former_no_heads c (var i) f h = f
former_no_heads c (const k ms) f h = f
former_no_heads c (app g a) f h = f
former_no_heads c (lam A b) f h = f
former_no_heads c (let_in A a b) f h = f
former_no_heads c (proj S i s) f h = f
former_no_heads c (lit n) f h = f
former_no_heads c wide f h = f
former_no_heads c (str s) f h = f
former_no_heads c (local k T) f h = f

pub applied_former : (h : Tree) (xs : List Tree) → IsFormer (apply h xs) → IsFormer h
applied_former h [] f = f
applied_former h (a ∷ xs) f = absurd (applied_former (app h a) xs f)

pub former_no_pi : {w : Place} {o T A B : Tree} → HasType w o T → Reduces w T (pi A B) → IsFormer o → ⊥
former_no_pi {T = T} {A = A} {B = B} t r f =
    let i : T ≡ sort _ = (former_typed t f).1 in
    let j : T ≡ pi A B = former_stays r (subst IsFormer (sym i) tt) in
    absurd cc

pub former_no_constant : {w : Place} {o T : Tree} (J : Name) (ls : List Level) (bs : List Tree) → HasType w o T → Reduces w T (apply (const J ls) bs) → IsFormer o → ⊥
former_no_constant {T = T} J ls bs t r f =
    let i : T ≡ sort _ = (former_typed t f).1 in
    let g : IsFormer T = subst IsFormer (sym i) tt in
    applied_former (const J ls) bs (subst IsFormer (former_stays r g) g)

pub former_first : {w : Place} {d : Name} {a b : Tree} → IsRigid w d → IsDefEq w a b → IsFormer a → Heads d b → ⊥
former_first {d = d} t (e_refl {a = a} x) f k = former_no_heads d a f k
former_first t (e_reduce p q e) f k = former_first t e (subst IsFormer (former_stays p f) f) (heads_stay t q k)
former_first t (e_eta_left v i r e) f k = former_no_pi i r f
former_first t (e_eta_right v i r e) f k = former_first t e f k
former_first t (e_struct_left i xs v q) f k = struct_head i xs t k
former_first t (e_struct_right i xs v q) f k = absurd (applied_former (const i.structure.ctor_name i.levels) (i.params ++ xs) f)
former_first t (e_unit i ls bs a b A B u v n ha r hb q) f k = former_no_constant i.name ls bs ha r f
former_first t (e_proof {A = A} u v ha p hb q) f k = sort_is_no_prop p (former_typed ha f).0 (former_typed ha f).1
former_first t (e_sort x) f k = absurd k
former_first t (e_pi fresh e g) f k = absurd k
former_first t (e_const x) f k = absurd f
former_first t (e_app u v e g) f k = absurd f
former_first t (e_lam fresh e g) f k = absurd f
former_first t (e_proj e) f k = absurd f
former_first t (e_str_left x e) f k = absurd f
former_first t (e_str_right x e) f k = absurd k
former_first t e_zero_left f k = absurd f
former_first t e_zero_right f k = absurd f
former_first t (e_succ_left x e) f k = absurd f
former_first t (e_succ_right x e) f k = absurd f

pub former_second : {w : Place} {c : Name} {a b : Tree} → IsRigid w c → IsDefEq w a b → Heads c a → IsFormer b → ⊥
former_second {c = c} s (e_refl {a = a} x) h f = former_no_heads c a f h
former_second s (e_reduce p q e) h f = former_second s e (heads_stay s p h) (subst IsFormer (former_stays q f) f)
former_second s (e_eta_left v i r e) h f = former_second s e h f
former_second s (e_eta_right v i r e) h f = former_no_pi i r f
former_second s (e_struct_left i xs v q) h f = absurd (applied_former (const i.structure.ctor_name i.levels) (i.params ++ xs) f)
former_second s (e_struct_right i xs v q) h f = struct_head i xs s h
former_second s (e_unit i ls bs a b A B u v n ha r hb q) h f = no_unit_like i (data_at i.name ls bs (heads_typed s ha h) r)
former_second s (e_proof u v ha p hb q) h f = heads_no_prop s ha h p
former_second s (e_sort x) h f = absurd h
former_second s (e_pi fresh e g) h f = absurd h
former_second s (e_const x) h f = absurd f
former_second s (e_app u v e g) h f = absurd f
former_second s (e_lam fresh e g) h f = absurd f
former_second s (e_proj e) h f = absurd f
former_second s (e_str_left x e) h f = absurd h
former_second s (e_str_right x e) h f = absurd f
former_second s e_zero_left h f = absurd f
former_second s e_zero_right h f = absurd f
former_second s (e_succ_left x e) h f = absurd f
former_second s (e_succ_right x e) h f = absurd f
