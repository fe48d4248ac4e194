-- Trees over a set of names.
use Rattle.std.proofs.Common.{ℕ, zero, suc, ◌-◌, nat_eq, nat_lt, Bool, true, false, List, [], ◌∷◌, ◌++◌, take, drop, Some, None, Option, if◌then◌else◌}
use Rattle.std.specs.Prelude.{slice_get}
use Rattle.lk_tree.specs.Tree.{Name, Level, Tree, var, sort, const, app, lam, pi, let_in, proj, lit, wide, str, local}
use Rattle.lk_tree.specs.Bind.{open_at, close_at}
use Rattle.lk_tree.specs.Levels.{put_levels}
use Rattle.lk_tree.specs.Spine.{apply, head, args}
use Rattle.lk_rulebook.specs.Structures.{projections}
use Rattle.lk_rulebook.specs.Literals.{char_list, expansion}
use Rattle.lk_closure.proofs.Names.{Over, AllOver, HasBuiltins}

-- one of two trees
pub over_if : (P : Name → Type 0) (b : Bool) (x y : Tree) → Over P x → Over P y → Over P (if b then x else y)
over_if P true x y h i = h
over_if P false x y h i = i

pub over_open : (P : Name → Type 0) (d : ℕ) (v b : Tree) → Over P b → Over P v → Over P (open_at d v b)
unfolding open_at
over_open P d v (var i) h o = over_if P (nat_lt i d) (var i) (if nat_eq i d then v else var (i - 1)) tt (over_if P (nat_eq i d) v (var (i - 1)) o tt)
over_open P d v (sort l) h o = tt
over_open P d v (const c ls) h o = h
over_open P d v (app f a) h o = (over_open P d v f h.0 o, over_open P d v a h.1 o)
over_open P d v (lam A b) h o = (over_open P d v A h.0 o, over_open P (suc d) v b h.1 o)
over_open P d v (pi A b) h o = (over_open P d v A h.0 o, over_open P (suc d) v b h.1 o)
over_open P d v (let_in A a b) h o = (over_open P d v A h.0 o, over_open P d v a h.1 o, over_open P (suc d) v b h.2 o)
over_open P d v (proj S i s) h o = over_open P d v s h o
over_open P d v (lit n) h o = tt
over_open P d v wide h o = tt
over_open P d v (str s) h o = tt
over_open P d v (local k T) h o = h

pub over_close : (P : Name → Type 0) (d k : ℕ) (b : Tree) → Over P b → Over P (close_at d k b)
unfolding close_at
over_close P d k (var i) h = tt
over_close P d k (sort l) h = tt
over_close P d k (const c ls) h = h
over_close P d k (app f a) h = (over_close P d k f h.0, over_close P d k a h.1)
over_close P d k (lam A b) h = (over_close P d k A h.0, over_close P (suc d) k b h.1)
over_close P d k (pi A b) h = (over_close P d k A h.0, over_close P (suc d) k b h.1)
over_close P d k (let_in A a b) h = (over_close P d k A h.0, over_close P d k a h.1, over_close P (suc d) k b h.2)
over_close P d k (proj S i s) h = over_close P d k s h
over_close P d k (lit n) h = tt
over_close P d k wide h = tt
over_close P d k (str s) h = tt
over_close P d k (local j T) h = over_if P (nat_eq j k) (var d) (local j T) tt h

pub over_levels : (P : Name → Type 0) (ps : List Name) (ls : List Level) (e : Tree) → Over P e → Over P (put_levels ps ls e)
unfolding put_levels
over_levels P ps ls (var i) h = tt
over_levels P ps ls (sort l) h = tt
over_levels P ps ls (const c ms) h = h
over_levels P ps ls (app f a) h = (over_levels P ps ls f h.0, over_levels P ps ls a h.1)
over_levels P ps ls (lam A b) h = (over_levels P ps ls A h.0, over_levels P ps ls b h.1)
over_levels P ps ls (pi A b) h = (over_levels P ps ls A h.0, over_levels P ps ls b h.1)
over_levels P ps ls (let_in A a b) h = (over_levels P ps ls A h.0, over_levels P ps ls a h.1, over_levels P ps ls b h.2)
over_levels P ps ls (proj S i s) h = over_levels P ps ls s h
over_levels P ps ls (lit n) h = tt
over_levels P ps ls wide h = tt
over_levels P ps ls (str s) h = tt
over_levels P ps ls (local k T) h = over_levels P ps ls T h

pub over_apply : (P : Name → Type 0) (h : Tree) (xs : List Tree) → Over P h → AllOver P xs → Over P (apply h xs)
over_apply P h [] o os = o
over_apply P h (x ∷ xs) o os = over_apply P (app h x) xs (o, os.0) os.1

pub over_append : (P : Name → Type 0) (xs ys : List Tree) → AllOver P xs → AllOver P ys → AllOver P (xs ++ ys)
over_append P [] ys h i = i
over_append P (x ∷ xs) ys h i = (h.0, over_append P xs ys h.1 i)

pub over_head : (P : Name → Type 0) (e : Tree) → Over P e → Over P (head e)
unfolding head
over_head P (app f a) h = over_head P f h.0
over_head P (var i) h = h
over_head P (sort l) h = h
over_head P (const c ls) h = h
over_head P (lam A b) h = h
over_head P (pi A B) h = h
over_head P (let_in A v b) h = h
over_head P (proj S i s) h = h
over_head P (lit n) h = h
over_head P wide h = h
over_head P (str s) h = h
over_head P (local k T) h = h

pub over_args : (P : Name → Type 0) (e : Tree) → Over P e → AllOver P (args e)
unfolding args
over_args P (app f a) h = over_append P (args f) (a ∷ []) (over_args P f h.0) (h.1, tt)
over_args P (var i) h = tt
over_args P (sort l) h = tt
over_args P (const c ls) h = tt
over_args P (lam A b) h = tt
over_args P (pi A B) h = tt
over_args P (let_in A v b) h = tt
over_args P (proj S i s) h = tt
over_args P (lit n) h = tt
over_args P wide h = tt
over_args P (str s) h = tt
over_args P (local k T) h = tt

pub over_take : (P : Name → Type 0) (n : ℕ) (xs : List Tree) → AllOver P xs → AllOver P (take n xs)
over_take P zero xs h = tt
over_take P (suc n) [] h = tt
over_take P (suc n) (x ∷ xs) h = (h.0, over_take P n xs h.1)

pub over_drop : (P : Name → Type 0) (n : ℕ) (xs : List Tree) → AllOver P xs → AllOver P (drop n xs)
over_drop P zero xs h = h
over_drop P (suc n) [] h = tt
over_drop P (suc n) (x ∷ xs) h = over_drop P n xs h.1

-- a tree, where there is one
abbrev pub IfOver : (Name → Type 0) → Option Tree → Type 0
IfOver P None = Unit {0}
IfOver P (Some x) = Over P x

pub over_at : (P : Name → Type 0) (n : ℕ) (xs : List Tree) → AllOver P xs → IfOver P (slice_get xs n)
over_at P n [] h = tt
over_at P zero (x ∷ xs) h = h.0
over_at P (suc n) (x ∷ xs) h = over_at P n xs h.1

pub over_projections : (P : Name → Type 0) (J : Name) (m : Tree) (j n : ℕ) → Over P m → AllOver P (projections J m j n)
over_projections P J m j zero h = tt
over_projections P J m j (suc n) h = (h, over_projections P J m (suc j) n h)

over_chars : (P : Name → Type 0) → HasBuiltins P → (cs : List ℕ) → Over P (char_list cs)
over_chars P b [] = (b.of_nil, b.of_char)
over_chars P b (c ∷ cs) = (((b.of_cons, b.of_char), (b.of_char_nat, tt)), over_chars P b cs)

pub over_expansion : (P : Name → Type 0) → HasBuiltins P → (cs : List ℕ) → Over P (expansion cs)
over_expansion P b cs = (b.of_mk, over_chars P b cs)
