-- Several values are put as they are opened with in turn.
use Rattle.std.proofs.Common.{ℕ, suc, ◌≡◌, ◌<◌, ◌≤◌, ◌+◌, ◌-◌, ◌⊎◌, inl, inr, true, false, nat_eq, nat_lt, List, [], ◌∷◌, length, slice_index_or, refl, sym, ap, ◌∙◌, arith}
use Rattle.std.proofs.lemmas.Bool.Decides.{nat_tests}
use Rattle.lk_tree.specs.Tree.{Tree, var, sort, const, app, lam, pi, let_in, proj, lit, wide, str, local}
use Rattle.lk_tree.specs.Bind.{open_at, open_var}
use Rattle.lk_tree.specs.Putting.{put_at, put_var}
use Rattle.lk_tree.specs.Loose.{loose}

is_lt : (i n : ℕ) → i < n → nat_lt i n ≡ true
is_lt i n h = grind (arith, nat_tests)

not_lt : (i n : ℕ) → n ≤ i → nat_lt i n ≡ false
not_lt i n h = grind (arith, nat_tests)

is_eq : (i n : ℕ) → i ≡ n → nat_eq i n ≡ true
is_eq i n h = grind (arith, nat_tests)

not_eq : (i n : ℕ) → n < i → nat_eq i n ≡ false
not_eq i n h = grind (arith, nat_tests)

-- the cases of a variable
var_before : (vs : List Tree) (d i : ℕ) → i < d → put_var vs d i ≡ var i
var_before vs d i h = rw (is_lt i d h) refl

var_here : (vs : List Tree) (d i : ℕ) → d ≤ i → i < d + length vs → put_var vs d i ≡ slice_index_or vs (length vs - 1 - (i - d)) wide
var_here vs d i h l = rw (not_lt i d h, is_lt (i - d) (length vs) (omega arith)) refl

var_past : (vs : List Tree) (d i : ℕ) → d + length vs ≤ i → put_var vs d i ≡ var (i - length vs)
var_past vs d i h = rw (not_lt i d (omega arith), not_lt (i - d) (length vs) (omega arith)) refl

open_before : (d i : ℕ) (v : Tree) → i < d → open_var d v i ≡ var i
open_before d i v h = rw (is_lt i d h) refl

open_here : (d i : ℕ) (v : Tree) → i ≡ d → open_var d v i ≡ v
open_here d i v h = rw (not_lt i d (omega arith), is_eq i d h) refl

open_past : (d i : ℕ) (v : Tree) → d < i → open_var d v i ≡ var (i - 1)
open_past d i v h = rw (not_lt i d (omega arith), not_eq i d h) refl

-- a tree without a loose variable stays
pub put_closed : (vs : List Tree) (d : ℕ) (t : Tree) → loose t ≤ d → put_at vs d t ≡ t
unfolding put_at
put_closed vs d (var i) h = var_before vs d i (omega arith)
put_closed vs d (sort l) h = refl
put_closed vs d (const c ls) h = refl
put_closed vs d (app f a) h = rw (put_closed vs d f (omega arith), put_closed vs d a (omega arith)) refl
put_closed vs d (lam A b) h = rw (put_closed vs d A (omega arith), put_closed vs (suc d) b (omega arith)) refl
put_closed vs d (pi A b) h = rw (put_closed vs d A (omega arith), put_closed vs (suc d) b (omega arith)) refl
put_closed vs d (let_in A v b) h = rw (put_closed vs d A (omega arith), put_closed vs d v (omega arith), put_closed vs (suc d) b (omega arith)) refl
put_closed vs d (proj S i s) h = ap (proj S i) (put_closed vs d s h)
put_closed vs d (lit n) h = refl
put_closed vs d wide h = refl
put_closed vs d (str s) h = refl
put_closed vs d (local k T) h = refl

-- nothing is put
pub put_nothing : (d : ℕ) (t : Tree) → put_at [] d t ≡ t
unfolding put_at
put_nothing d (var i) = elim (before_or_not i d) [ inl h ↦ var_before [] d i h | inr h ↦ var_past [] d i (omega arith) ∙ ap var (omega arith) ]
  where
    before_or_not : (i d : ℕ) → (i < d) ⊎ (d ≤ i)
    before_or_not i d = grind arith
put_nothing d (sort l) = refl
put_nothing d (const c ls) = refl
put_nothing d (app f a) = rw (put_nothing d f, put_nothing d a) refl
put_nothing d (lam A b) = rw (put_nothing d A, put_nothing (suc d) b) refl
put_nothing d (pi A b) = rw (put_nothing d A, put_nothing (suc d) b) refl
put_nothing d (let_in A v b) = rw (put_nothing d A, put_nothing d v, put_nothing (suc d) b) refl
put_nothing d (proj S i s) = ap (proj S i) (put_nothing d s)
put_nothing d (lit n) = refl
put_nothing d wide = refl
put_nothing d (str s) = refl
put_nothing d (local k T) = refl

-- where a variable stands: before, among the rest, at the first value's place, or past it
data Stands (d n i : ℕ) : Type 0 where
  before : i < d → Stands d n i
  among : (k : ℕ) → d ≤ i → i < d + n → n - (i - d) ≡ suc k → n - 1 - (i - d) ≡ k → Stands d n i
  first : i ≡ d + n → Stands d n i
  past : d + n < i → Stands d n i

stands : (d n i : ℕ) → Stands d n i
stands d n i = elim (four d n i) [
  | inl h ↦ before h
  | inr (inl h) ↦ among (n - 1 - (i - d)) h.0 h.1 (omega (arith, h.0, h.1)) refl
  | inr (inr (inl h)) ↦ first h
  | inr (inr (inr h)) ↦ past h
]
  where
    four : (d n i : ℕ) → (i < d) ⊎ (((d ≤ i) × (i < d + n)) ⊎ ((i ≡ d + n) ⊎ (d + n < i)))
    four d n i = grind arith

next_index : (v : Tree) (vs : List Tree) (m k : ℕ) → m ≡ suc k → slice_index_or (v ∷ vs) m wide ≡ slice_index_or vs k wide
next_index v vs m k e = rw e refl

first_index : (v : Tree) (vs : List Tree) (m : ℕ) → m ≡ 0 → slice_index_or (v ∷ vs) m wide ≡ v
first_index v vs m e = rw e refl

put_var_more : (v : Tree) (vs : List Tree) (d i : ℕ) → loose v ≡ 0 → Stands d (length vs) i → put_var (v ∷ vs) d i ≡ put_at vs d (open_var (d + length vs) v i)
unfolding put_at
put_var_more v vs d i z (before h) =
    var_before (v ∷ vs) d i h ∙ sym (ap (put_at vs d) (open_before (d + length vs) i v (omega arith)) ∙ var_before vs d i h)
put_var_more v vs d i z (among k h l e f) =
    var_here (v ∷ vs) d i h (omega arith) ∙ (next_index v vs (length (v ∷ vs) - 1 - (i - d)) k (omega arith)
    ∙ sym (ap (put_at vs d) (open_before (d + length vs) i v l) ∙ (var_here vs d i h l ∙ ap (λ x. slice_index_or vs x wide) f)))
put_var_more v vs d i z (first h) =
    var_here (v ∷ vs) d i (omega arith) (omega arith) ∙ (first_index v vs (length (v ∷ vs) - 1 - (i - d)) (omega arith)
    ∙ sym (ap (put_at vs d) (open_here (d + length vs) i v h) ∙ put_closed vs d v (omega arith)))
put_var_more v vs d i z (past h) =
    var_past (v ∷ vs) d i (omega arith)
    ∙ sym (ap (put_at vs d) (open_past (d + length vs) i v h) ∙ (var_past vs d (i - 1) (omega arith) ∙ ap var (omega arith)))

-- the first value is put as a tree is opened with it, past the others' variables; then the others are put
pub put_more : (v : Tree) (vs : List Tree) (d : ℕ) (t : Tree) → loose v ≡ 0 → put_at (v ∷ vs) d t ≡ put_at vs d (open_at (d + length vs) v t)
unfolding put_at open_at
put_more v vs d (var i) z = put_var_more v vs d i z (stands d (length vs) i)
put_more v vs d (sort l) z = refl
put_more v vs d (const c ls) z = refl
put_more v vs d (app f a) z = rw (put_more v vs d f z, put_more v vs d a z) refl
put_more v vs d (lam A b) z = rw (put_more v vs d A z, put_more v vs (suc d) b z) (ap (λ n. lam (put_at vs d (open_at (d + length vs) v A)) (put_at vs (suc d) (open_at n v b))) (omega arith))
put_more v vs d (pi A b) z = rw (put_more v vs d A z, put_more v vs (suc d) b z) (ap (λ n. pi (put_at vs d (open_at (d + length vs) v A)) (put_at vs (suc d) (open_at n v b))) (omega arith))
put_more v vs d (let_in A a b) z =
    rw (put_more v vs d A z, put_more v vs d a z, put_more v vs (suc d) b z)
    (ap (λ n. let_in (put_at vs d (open_at (d + length vs) v A)) (put_at vs d (open_at (d + length vs) v a)) (put_at vs (suc d) (open_at n v b))) (omega arith))
put_more v vs d (proj S i s) z = ap (proj S i) (put_more v vs d s z)
put_more v vs d (lit n) z = refl
put_more v vs d wide z = refl
put_more v vs d (str s) z = refl
put_more v vs d (local k T) z = refl
