-- Opening binders at once: values put at once, and the number of the next Local.
use Rattle.std.proofs.Common.{◌≡◌, ℕ, suc, ◌+◌, ◌-◌, ◌<◌, ◌≤◌, ◌⊎◌, inl, inr, Bool, true, false, ◌||◌, nat_eq, nat_lt, List, [], ◌∷◌, ◌++◌, length, slice_index_or, map, refl, ap, sym, ◌∙◌, arith}
use Rattle.std.specs.Prelude.{All, Result, Ok, Err, IfOk}
use Rattle.std.proofs.lemmas.Bool.Decides.{nat_tests}
use Rattle.std.proofs.lemmas.List.Elements.{All-head, All-tail, All-weaker, All-map, All-push, All-cons, All-get_or}
use Rattle.std.proofs.lemmas.List.{map-append, length-map}
use Rattle.lk_tree.specs.Tree.{Tree, var, sort, const, app, lam, pi, let_in, proj, lit, wide, str, local}
use Rattle.lk_tree.specs.Bind.{open_at, open_var, opened, bound, has_var}
use Rattle.lk_tree.specs.Loose.{loose}
use Rattle.lk_tree.specs.Putting.{put, put_at}
use Rattle.lk_tree.proofs.Binding.{Opening, opening, below, at, above}
use Rattle.lk_tree.proofs.Puttings.{put_more, put_nothing, put_closed}
use Rattle.lk_store.specs.Contents.{Contents, tree_at, Extends, IsTree}
use Rattle.lk_ask.proofs.Sheets.{grown}
use Rattle.lk_store.specs.declared.memory.NoMemory.{NoMemory}
use Rattle.lk_subst.specs.Numbers.{trees-steady}
use Rattle.lk_subst.proofs.Unchanged.{open_at-closed}
use Rattle.lk_type.specs.declared.sheet.Binders.{Binders}
use Rattle.lk_type.specs.declared.sheet.Binders.TheVariants.{Pis, Lambdas}
use Rattle.lk_type.specs.Sheets.{map_telescope}
use Rattle.lk_type.specs.Telescopes.{bound_by, fresh, OpensTo, ahead, started, asked_for}
use Rattle.lk_type.specs.Openings.{IsBinder, IsNumberFor, IsClosedBy, AreClosed, IsOpened}

length-last : (xs : List Tree) (x : Tree) → length (xs ++ x ∷ []) ≡ suc (length xs)
length-last [] x = refl
length-last (y ∷ xs) x = ap suc (length-last xs x)

-- how many binders stand at the head
abbrev pub binders_in : Binders → Tree → ℕ
binders_in Pis (pi A B) = suc (binders_in Pis B)
binders_in Lambdas (lam A B) = suc (binders_in Lambdas B)
binders_in _ _ = 0

pub fewer_binders : (b : Binders) (e A B : Tree) → e ≡ bound_by b A B → binders_in b B < binders_in b e
fewer_binders Pis e A B h = rw h (omega arith)
fewer_binders Lambdas e A B h = rw h (omega arith)

-- the last one stands ahead of what follows
pub ahead_last : (xs : List Tree) (x e : Tree) → ahead (xs ++ x ∷ []) e ≡ ahead xs (app x e)
ahead_last [] x e = refl
ahead_last (y ∷ xs) x e = ap (app y) (ahead_last xs x e)

-- the trees of a list hold no loose variables
abbrev pub NoneLoose : List Tree → Type 0
NoneLoose = All (λ x. loose x ≡ 0)

-- a body that is opened after values were put is one in which one value more was put
pub put_last : (xs : List Tree) (x : Tree) (d : ℕ) (e : Tree) → NoneLoose xs → loose x ≡ 0 → open_at d x (put_at xs (suc d) e) ≡ put_at (xs ++ x ∷ []) d e
put_last [] x d e h z =
    ap (open_at d x) (put_nothing (suc d) e)
    ∙ (ap (λ n. open_at n x e) (let n : d ≡ d + 0 = omega arith in n)
    ∙ sym (put_more x [] d e z ∙ put_nothing d (open_at (d + 0) x e)))
put_last (y ∷ xs) x d e h z =
    let P : Tree → Type 0 = λ t. loose t ≡ 0 in
    let first : loose y ≡ 0 = All-head P y xs h in
    let n : suc d + length xs ≡ d + length (xs ++ x ∷ []) = (let l = length-last xs x in omega arith) in
    ap (open_at d x) (put_more y xs (suc d) e first)
    ∙ (put_last xs x d (open_at (suc d + length xs) y e) (All-tail P y xs h) z
    ∙ (ap (λ m. put_at (xs ++ x ∷ []) d (open_at m y e)) n ∙ sym (put_more y (xs ++ x ∷ []) d e first)))

pub or_either : (p q : Bool) → (p || q) ≡ true → (p ≡ true) ⊎ (q ≡ true)
or_either true q h = inl refl
or_either false q h = inr h

pub or_left : (p q : Bool) → p ≡ true → (p || q) ≡ true
or_left p q h = rw h refl

pub or_right : (p q : Bool) → q ≡ true → (p || q) ≡ true
or_right true q h = refl
or_right false q h = h

-- a tree is opened with a value in which no bound is greater
open_bound : (d n : ℕ) (v e : Tree) → bound e ≤ n → bound v ≤ n → bound (open_at d v e) ≤ n
unfolding open_at bound
open_bound d n v (var i) h k = of_var (opening d i v)
  where
    of_var : Opening d i v → bound (open_at d v (var i)) ≤ n
    of_var (below l e) = rw e (omega arith)
    of_var (at l e) = rw e k
    of_var (above l e) = rw e (omega arith)
open_bound d n v (sort l) h k = h
open_bound d n v (const c ls) h k = h
open_bound d n v (app f a) h k =
    let p = open_bound d n v f (omega arith) k in let q = open_bound d n v a (omega arith) k in omega arith
open_bound d n v (lam A b) h k =
    let p = open_bound d n v A (omega arith) k in let q = open_bound (suc d) n v b (omega arith) k in omega arith
open_bound d n v (pi A b) h k =
    let p = open_bound d n v A (omega arith) k in let q = open_bound (suc d) n v b (omega arith) k in omega arith
open_bound d n v (let_in A a b) h k =
    let p = open_bound d n v A (omega arith) k in let q = open_bound d n v a (omega arith) k in
    let r = open_bound (suc d) n v b (omega arith) k in omega arith
open_bound d n v (proj S i s) h k = open_bound d n v s h k
open_bound d n v (lit m) h k = h
open_bound d n v wide h k = h
open_bound d n v (str s) h k = h
open_bound d n v (local j T) h k = h

-- where the variable occurs the value does
open_has : (d : ℕ) (v e : Tree) → has_var d e ≡ true → bound v ≤ bound (open_at d v e)
unfolding open_at bound
open_has d v (var i) h = of_var (opening d i v)
  where
    of_var : Opening d i v → bound v ≤ bound (open_at d v (var i))
    of_var (below l e) = absurd (grind (arith, nat_tests))
    of_var (at l e) = rw e (omega arith)
    of_var (above l e) = absurd (grind (arith, nat_tests))
open_has d v (sort l) h = absurd cc
open_has d v (const c ls) h = absurd cc
open_has d v (app f a) h = elim (or_either (has_var d f) (has_var d a) h) [
  | inl p ↦ let q = open_has d v f p in omega arith
  | inr p ↦ let q = open_has d v a p in omega arith
]
open_has d v (lam A b) h = elim (or_either (has_var d A) (has_var (suc d) b) h) [
  | inl p ↦ let q = open_has d v A p in omega arith
  | inr p ↦ let q = open_has (suc d) v b p in omega arith
]
open_has d v (pi A b) h = elim (or_either (has_var d A) (has_var (suc d) b) h) [
  | inl p ↦ let q = open_has d v A p in omega arith
  | inr p ↦ let q = open_has (suc d) v b p in omega arith
]
open_has d v (let_in A a b) h = elim (or_either (has_var d A) (has_var d a || has_var (suc d) b) h) [
  | inl p ↦ let q = open_has d v A p in omega arith
  | inr r ↦ elim (or_either (has_var d a) (has_var (suc d) b) r) [
    | inl p ↦ let q = open_has d v a p in omega arith
    | inr p ↦ let q = open_has (suc d) v b p in omega arith
  ]
]
open_has d v (proj S i s) h = open_has d v s h
open_has d v (lit m) h = absurd cc
open_has d v wide h = absurd cc
open_has d v (str s) h = absurd cc
open_has d v (local j T) h = absurd cc

-- a variable before those for which values are put stays
put_has : (xs : List Tree) (d k : ℕ) (e : Tree) → k < d → has_var k e ≡ true → has_var k (put_at xs d e) ≡ true
unfolding put_at
put_has xs d k (var i) l h =
    let n : i ≡ k = grind (arith, nat_tests) in
    ap (has_var k) (put_closed xs d (var i) (omega arith)) ∙ h
put_has xs d k (sort m) l h = h
put_has xs d k (const c ls) l h = h
put_has xs d k (app f a) l h = elim (or_either (has_var k f) (has_var k a) h) [
  | inl p ↦ or_left _ (has_var k (put_at xs d a)) (put_has xs d k f l p)
  | inr p ↦ or_right (has_var k (put_at xs d f)) _ (put_has xs d k a l p)
]
put_has xs d k (lam A b) l h = elim (or_either (has_var k A) (has_var (suc k) b) h) [
  | inl p ↦ or_left _ (has_var (suc k) (put_at xs (suc d) b)) (put_has xs d k A l p)
  | inr p ↦ or_right (has_var k (put_at xs d A)) _ (put_has xs (suc d) (suc k) b (omega arith) p)
]
put_has xs d k (pi A b) l h = elim (or_either (has_var k A) (has_var (suc k) b) h) [
  | inl p ↦ or_left _ (has_var (suc k) (put_at xs (suc d) b)) (put_has xs d k A l p)
  | inr p ↦ or_right (has_var k (put_at xs d A)) _ (put_has xs (suc d) (suc k) b (omega arith) p)
]
put_has xs d k (let_in A a b) l h = elim (or_either (has_var k A) (has_var k a || has_var (suc k) b) h) [
  | inl p ↦ or_left _ (has_var k (put_at xs d a) || has_var (suc k) (put_at xs (suc d) b)) (put_has xs d k A l p)
  | inr r ↦ or_right (has_var k (put_at xs d A)) _ (elim (or_either (has_var k a) (has_var (suc k) b) r) [
    | inl p ↦ or_left _ (has_var (suc k) (put_at xs (suc d) b)) (put_has xs d k a l p)
    | inr p ↦ or_right (has_var k (put_at xs d a)) _ (put_has xs (suc d) (suc k) b (omega arith) p)
  ])
]
put_has xs d k (proj S i s) l h = put_has xs d k s l h
put_has xs d k (lit m) l h = h
put_has xs d k wide l h = h
put_has xs d k (str s) l h = h
put_has xs d k (local j T) l h = h

or_none : (p q : Bool) → (p || q) ≡ false → (p ≡ false) × (q ≡ false)
or_none true q h = absurd cc
or_none false q h = (refl, h)

-- the value of a variable, under one binder more
value_shift : (xs : List Tree) (d i : ℕ) → bound (put_at xs d (var i)) ≤ bound (put_at xs (suc d) (var (suc i)))
unfolding put_at bound
value_shift xs d i = go (nat_lt i d) refl (nat_lt (i - d) (length xs)) refl
  where
    go : (a : Bool) → nat_lt i d ≡ a → (b : Bool) → nat_lt (i - d) (length xs) ≡ b → bound (put_at xs d (var i)) ≤ bound (put_at xs (suc d) (var (suc i)))
    go true f b g = rw f (omega arith)
    go false f true g =
        let over : nat_lt (suc i) (suc d) ≡ false = grind (arith, nat_tests) in
        let less : suc i - suc d ≡ i - d = omega arith in
        rw (f, over, less, g) (omega arith)
    go false f false g = rw (f, g) (omega arith)

-- where a variable occurs its value does
value_bound : (xs : List Tree) (d i : ℕ) (e : Tree) → has_var i e ≡ true → bound (put_at xs d (var i)) ≤ bound (put_at xs d e)
unfolding put_at bound
value_bound xs d i (var j) h = let same : j ≡ i = grind (arith, nat_tests) in rw same (omega arith)
value_bound xs d i (sort l) h = absurd cc
value_bound xs d i (const c ls) h = absurd cc
value_bound xs d i (app f a) h = elim (or_either (has_var i f) (has_var i a) h) [
  | inl p ↦ let q = value_bound xs d i f p in omega arith
  | inr p ↦ let q = value_bound xs d i a p in omega arith
]
value_bound xs d i (lam A b) h = elim (or_either (has_var i A) (has_var (suc i) b) h) [
  | inl p ↦ let q = value_bound xs d i A p in omega arith
  | inr p ↦ let q = value_bound xs (suc d) (suc i) b p in let s = value_shift xs d i in omega arith
]
value_bound xs d i (pi A b) h = elim (or_either (has_var i A) (has_var (suc i) b) h) [
  | inl p ↦ let q = value_bound xs d i A p in omega arith
  | inr p ↦ let q = value_bound xs (suc d) (suc i) b p in let s = value_shift xs d i in omega arith
]
value_bound xs d i (let_in A a b) h = elim (or_either (has_var i A) (has_var i a || has_var (suc i) b) h) [
  | inl p ↦ let q = value_bound xs d i A p in omega arith
  | inr r ↦ elim (or_either (has_var i a) (has_var (suc i) b) r) [
    | inl p ↦ let q = value_bound xs d i a p in omega arith
    | inr p ↦ let q = value_bound xs (suc d) (suc i) b p in let s = value_shift xs d i in omega arith
  ]
]
value_bound xs d i (proj S k s) h = value_bound xs d i s h
value_bound xs d i (lit m) h = absurd cc
value_bound xs d i wide h = absurd cc
value_bound xs d i (str s) h = absurd cc
value_bound xs d i (local j T) h = absurd cc

-- a variable that does not occur is opened with nothing
unused_var : (xs : List Tree) (d i : ℕ) (x : Tree) → NoneLoose xs → nat_eq i d ≡ false → bound (open_at d x (put_at xs (suc d) (var i))) ≡ bound (put_at xs (suc d) (var i))
unfolding open_at put_at bound
unused_var xs d i x h e = go (nat_lt i (suc d)) refl (nat_lt (i - suc d) (length xs)) refl
  where
    of_var : (j : ℕ) → nat_eq j d ≡ false → Opening d j x → bound (open_var d x j) ≡ 0
    of_var j n (below l e) = rw e refl
    of_var j n (at l e) = absurd (grind (arith, nat_tests))
    of_var j n (above l e) = rw e refl

    go : (a : Bool) → nat_lt i (suc d) ≡ a → (b : Bool) → nat_lt (i - suc d) (length xs) ≡ b → bound (open_at d x (put_at xs (suc d) (var i))) ≡ bound (put_at xs (suc d) (var i))
    go true f b g = rw f (of_var i e (opening d i x))
    go false f true g =
        let place : length xs - 1 - (i - suc d) < length xs = grind (arith, nat_tests) in
        let v : Tree = slice_index_or xs (length xs - 1 - (i - suc d)) wide in
        let none : loose v ≡ 0 = All-get_or (λ t. loose t ≡ 0) xs (length xs - 1 - (i - suc d)) wide place h in
        let low : loose v ≤ d = omega (arith, none) in
        let stays : open_at d x v ≡ v = open_at-closed d x v low in
        rw (f, g) (ap bound stays)
    go false f false g =
        let past : nat_eq (i - length xs) d ≡ false = grind (arith, nat_tests) in
        rw (f, g) (of_var (i - length xs) past (opening d (i - length xs) x))

unused : (xs : List Tree) (d : ℕ) (x e : Tree) → NoneLoose xs → has_var d e ≡ false → bound (open_at d x (put_at xs (suc d) e)) ≡ bound (put_at xs (suc d) e)
unfolding open_at put_at bound
unused xs d x (var i) h n = unused_var xs d i x h n
unused xs d x (sort l) h n = refl
unused xs d x (const c ls) h n = refl
unused xs d x (app f a) h n =
    let both = or_none (has_var d f) (has_var d a) n in
    let p = unused xs d x f h both.0 in let q = unused xs d x a h both.1 in omega (arith, p, q)
unused xs d x (lam A b) h n =
    let both = or_none (has_var d A) (has_var (suc d) b) n in
    let p = unused xs d x A h both.0 in let q = unused xs (suc d) x b h both.1 in omega (arith, p, q)
unused xs d x (pi A b) h n =
    let both = or_none (has_var d A) (has_var (suc d) b) n in
    let p = unused xs d x A h both.0 in let q = unused xs (suc d) x b h both.1 in omega (arith, p, q)
unused xs d x (let_in A a b) h n =
    let both = or_none (has_var d A) (has_var d a || has_var (suc d) b) n in
    let more = or_none (has_var d a) (has_var (suc d) b) both.1 in
    let p = unused xs d x A h both.0 in let q = unused xs d x a h more.0 in let r = unused xs (suc d) x b h more.1 in omega (arith, p, q, r)
unused xs d x (proj S i s) h n = unused xs d x s h n
unused xs d x (lit m) h n = refl
unused xs d x wide h n = refl
unused xs d x (str s) h n = refl
unused xs d x (local j T) h n = refl

-- a binder, in which values are put
put_binder : (xs : List Tree) (b : Binders) (A B : Tree) → put xs (bound_by b A B) ≡ bound_by b (put xs A) (put_at xs 1 B)
unfolding put_at
put_binder xs Pis A B = refl
put_binder xs Lambdas A B = refl

bound_of_body : (b : Binders) (A B : Tree) → (bound A ≤ bound (bound_by b A B)) × (bound B ≤ bound (bound_by b A B))
unfolding bound
bound_of_body Pis A B = (omega arith, omega arith)
bound_of_body Lambdas A B = (omega arith, omega arith)

local_bound : (k : ℕ) (T : Tree) → bound T ≤ k → bound (local k T) ≡ suc k
unfolding bound
local_bound k T h = omega arith

fresh_bound : (b : Binders) (A B : Tree) → bound (fresh b A B) ≡ suc (bound (bound_by b A B))
fresh_bound b A B = local_bound (bound (bound_by b A B)) A (bound_of_body b A B).0

-- where the last Local does not occur, and one does whose number is one less, the number stays
pub record IsStill (values : List Tree) (e : Tree) (number next : ℕ) : Type 0 where
  pub same : next ≡ number
  pub none : has_var 0 e ≡ false
  pub index : ℕ
  pub occurs : has_var index e ≡ true
  pub reaches : number ≤ bound (put_at values 1 (var index))

-- the number of the next Local: by the body alone where that is closed, and by the last Local where it occurs
abbrev pub IsNextNumber : List Tree → Tree → ℕ → ℕ → Type 0
IsNextNumber values e number next =
    ((loose e ≡ 0) × (next ≡ bound e)) ⊎ (((has_var 0 e ≡ true) × (next ≡ suc number)) ⊎ IsStill values e number next)

-- the number of the next Local, in the body that is opened with one more
next_is : (xs : List Tree) (b : Binders) (A B : Tree) (x : Tree) (next : ℕ) → NoneLoose xs → x ≡ fresh b (put xs A) (put_at xs 1 B)
    → IsNextNumber xs B (bound (put xs (bound_by b A B))) next → next ≡ bound (put (xs ++ x ∷ []) B)
next_is xs b A B x next h is (inl (z, e)) = e ∙ ap bound (sym (put_closed (xs ++ x ∷ []) 0 B (omega arith)))
next_is xs b A B x next h is (inr (inl (occurs, e))) =
    let C = put_at xs 1 B in
    let n = bound (bound_by b (put xs A) C) in
    let same : bound (put xs (bound_by b A B)) ≡ n = ap bound (put_binder xs b A B) in
    let of_x : bound x ≡ suc n = ap bound is ∙ fresh_bound b (put xs A) C in
    let few : bound C ≤ n = (bound_of_body b (put xs A) C).1 in
    let most = open_bound 0 (suc n) x C (omega (arith, few)) (omega (arith, of_x)) in
    let least = open_has 0 x C (put_has xs 1 0 B (omega arith) occurs) in
    let opens : open_at 0 x C ≡ put (xs ++ x ∷ []) B = put_last xs x 0 B h (ap loose is) in
    let there : suc n ≡ bound (open_at 0 x C) = omega (arith, most, least, of_x) in
    e ∙ (ap suc same ∙ (there ∙ ap bound opens))
next_is xs b A B x next h is (inr (inr still)) =
    let C = put_at xs 1 B in
    let n = bound (bound_by b (put xs A) C) in
    let same : bound (put xs (bound_by b A B)) ≡ n = ap bound (put_binder xs b A B) in
    let few : bound C ≤ n = (bound_of_body b (put xs A) C).1 in
    let least = value_bound xs 1 still.index B still.occurs in
    let reaches = still.reaches in
    let most : n ≡ bound C = omega (arith, same, few, least, reaches) in
    let opens : open_at 0 x C ≡ put (xs ++ x ∷ []) B = put_last xs x 0 B h (ap loose is) in
    still.same ∙ (same ∙ (most ∙ (sym (unused xs 0 x B h still.none) ∙ ap bound opens)))

-- one binder more is opened
opens_last : (b : Binders) (e : Tree) (xs : List Tree) (A B : Tree) → OpensTo b e xs (bound_by b A B) → OpensTo b e (xs ++ fresh b A B ∷ []) (opened B (fresh b A B))
opens_last b e [] A B h = (A, B, h, refl, refl)
opens_last b e (x ∷ xs) A B h = (h.0, h.1, h.2, h.3, opens_last b (opened h.1 x) xs A B h.4)

pub closed_known : (c : Contents) (xs : List ℕ) → AreClosed c xs → All (λ x. x < length c.trees) xs
closed_known c xs h = All-weaker (λ x. (x < length c.trees) × (loose (tree_at c x) ≡ 0)) (λ x. x < length c.trees) (λ x k. k.0) xs h

closed_steady : {c d : Contents} → Extends c d → (xs : List ℕ) → AreClosed c xs → AreClosed d xs
closed_steady {c} {d} x xs h =
    All-weaker (λ x. (x < length c.trees) × (loose (tree_at c x) ≡ 0)) (λ x. (x < length d.trees) × (loose (tree_at d x) ≡ 0))
    (λ e k. (grown x e k.0, ap loose (x.trees.same e k.0) ∙ k.1)) xs h

none_loose : (c : Contents) (xs : List ℕ) → AreClosed c xs → NoneLoose (map (tree_at c) xs)
none_loose c xs h =
    All-map (λ t. loose t ≡ 0) (tree_at c) xs
    (All-weaker (λ x. (x < length c.trees) × (loose (tree_at c x) ≡ 0)) (λ x. loose (tree_at c x) ≡ 0) (λ x k. k.1) xs h)

append_last : (xs ys : List ℕ) (y : ℕ) → (xs ++ ys) ++ y ∷ [] ≡ xs ++ (ys ++ y ∷ [])
append_last [] ys y = refl
append_last (x ∷ xs) ys y = ap (λ l. x ∷ l) (append_last xs ys y)

pub some_of_append : (P : ℕ → Type 0) (xs ys : List ℕ) → All P (xs ++ ys) → All P ys
some_of_append P [] ys h = h
some_of_append P (x ∷ xs) ys h = some_of_append P xs ys (All-tail P x (xs ++ ys) h)

-- a Local is added, for the binder inside
pub record IsAdded (b : Binders) (now later : Contents) (inside domain body number x : ℕ) (before after : List ℕ) : Type 0 where
  pub grows : Extends now later
  pub is_binder : IsBinder now b inside (domain, body)
  pub is_number : IsNumberFor now before inside number
  pub made : IsTree later x (local number (put (map (tree_at now) before) (tree_at now domain)))
  pub pushed : after ≡ before ++ x ∷ []
  pub closed : AreClosed now before

module _ {b : Binders} {now later : Contents} {inside domain body number x : ℕ} {before after : List ℕ} (a : IsAdded b now later inside domain body number x before after) where
  abbrev values : List Tree
  values = map (tree_at now) before

  -- the new Local, by the body in which the values stand
  is_fresh : tree_at later x ≡ fresh b (put values (tree_at now domain)) (put_at values 1 (tree_at now body))
  is_fresh =
      a.made.is ∙ ap (λ n. local n (put values (tree_at now domain)))
      (a.is_number ∙ ap bound (ap (put values) a.is_binder.is ∙ put_binder values b (tree_at now domain) (tree_at now body)))

  values_then : map (tree_at later) after ≡ values ++ tree_at later x ∷ []
  values_then = rw a.pushed (map-append (tree_at later) before (x ∷ []) ∙ ap (λ l. l ++ tree_at later x ∷ []) (trees-steady now later before a.grows (closed_known now before a.closed)))

  body_then : tree_at later body ≡ tree_at now body
  body_then = a.grows.trees.same body a.is_binder.body_in

  pub still_closed : AreClosed later after
  still_closed = rw a.pushed (All-push (λ y. (y < length later.trees) × (loose (tree_at later y) ≡ 0)) before x (closed_steady a.grows before a.closed) (a.made.known, ap loose a.made.is))

  pub next_fits : (n : ℕ) → IsNextNumber values (tree_at later body) number n → IsNumberFor later after body n
  next_fits n h =
      let there = rw (body_then, a.is_number, a.is_binder.is) at h in
      let e = next_is values b (tree_at now domain) (tree_at now body) (tree_at later x) n (none_loose now before a.closed) is_fresh there in
      rw (values_then, body_then) e

  pub still_opened : {began : Contents} {outer : ℕ} {old : List ℕ} → IsClosedBy began old outer → IsOpened began now b outer old before (put values (tree_at now inside)) → IsOpened began later b outer old after (put (map (tree_at later) after) (tree_at later body))
  still_opened {old = old} few h =
      let more_in : All (λ y. y < length now.trees) h.more = some_of_append (λ y. y < length now.trees) old h.more (rw h.is at h.known) in
      let D = put values (tree_at now domain) in
      let C = put_at values 1 (tree_at now body) in
      let opens : OpensTo b _ (map (tree_at now) h.more) (bound_by b D C) =
      rw (a.is_binder.is, put_binder values b (tree_at now domain) (tree_at now body)) at h.opens in
      let mapped : map (tree_at later) (h.more ++ x ∷ []) ≡ map (tree_at now) h.more ++ fresh b D C ∷ [] =
      map-append (tree_at later) h.more (x ∷ []) ∙ (ap (λ l. l ++ tree_at later x ∷ []) (trees-steady now later h.more a.grows more_in) ∙ ap (λ t. map (tree_at now) h.more ++ t ∷ []) is_fresh) in
      let body_is : put (map (tree_at later) after) (tree_at later body) ≡ opened C (fresh b D C) =
      ap (λ l. put l (tree_at later body)) values_then ∙ (ap (put (values ++ tree_at later x ∷ [])) body_then
      ∙ (sym (put_last values (tree_at later x) 0 (tree_at now body) (none_loose now before a.closed) (ap loose a.made.is)) ∙ ap (opened C) is_fresh)) in
      record {
        more = h.more ++ x ∷ [];
        is = a.pushed ∙ (ap (λ l. l ++ x ∷ []) h.is ∙ append_last old h.more x);
        known = closed_known later after still_closed;
        opens = rw (mapped, body_is) (opens_last b _ (map (tree_at now) h.more) D C opens);
        closed = inr few;
      }

-- what stands inside is made
pub opened_on : {began now later : Contents} {b : Binders} {outer r : ℕ} {old new : List ℕ} (inside : ℕ) → Extends now later → AreClosed now new
    → IsOpened began now b outer old new (put (map (tree_at now) new) (tree_at now inside))
    → IsTree later r (put (map (tree_at now) new) (tree_at now inside)) → IsOpened began later b outer old new (tree_at later r)
opened_on {now = now} {later = later} {old = old} {new = new} inside x closed h made =
    let more_in : All (λ y. y < length now.trees) h.more = some_of_append (λ y. y < length now.trees) old h.more (rw h.is at h.known) in
    record {
      more = h.more;
      is = h.is;
      known = closed_known later new (closed_steady x new closed);
      opens = rw (trees-steady now later h.more x more_in, made.is) h.opens;
      closed = h.closed;
    }

pub opened_in : {began now later : Contents} {b : Binders} {outer : ℕ} {old new : List ℕ} (inside : ℕ) (r : Result ℕ NoMemory) → Extends now later → AreClosed now new
    → IsOpened began now b outer old new (put (map (tree_at now) new) (tree_at now inside))
    → IfOk r (λ e. IsTree later e (put (map (tree_at now) new) (tree_at now inside))) → IfOk r (λ e. IsOpened began later b outer old new (tree_at later e))
opened_in inside (Ok e) x closed h made = opened_on inside x closed h made
opened_in inside (Err e) x closed h made = tt

pub front_of_append : (P : ℕ → Type 0) (xs ys : List ℕ) → All P (xs ++ ys) → All P xs
front_of_append P [] ys h = λ k d l. absurd (omega arith)
front_of_append P (x ∷ xs) ys h = All-cons P x xs (All-head P x (xs ++ ys) h) (front_of_append P xs ys (All-tail P x (xs ++ ys) h))

-- one Local more ahead of what follows
pub ahead_step : {began now later : Contents} → Extends began now → (left others : List ℕ) (x e r : ℕ) → left ≡ others ++ x ∷ []
    → All (λ y. y < length began.trees) left → IsTree later r (app (tree_at now x) (tree_at now e))
    → ahead (map (tree_at began) others) (tree_at later r) ≡ ahead (map (tree_at began) left) (tree_at now e)
ahead_step {began} {now} {later} grows left others x e r is known made =
    let P : ℕ → Type 0 = λ y. y < length began.trees in
    let x_in : x < length began.trees = All-head P x [] (some_of_append P others (x ∷ []) (rw is at known)) in
    let same = grows.trees.same x x_in in
    ap (ahead (map (tree_at began) others)) (made.is ∙ ap (λ t. app t (tree_at now e)) same)
    ∙ (sym (ahead_last (map (tree_at began) others) (tree_at began x) (tree_at now e))
    ∙ ap (λ l. ahead l (tree_at now e)) (sym (ap (map (tree_at began)) is ∙ map-append (tree_at began) others (x ∷ []))))

-- a telescope whose Locals were put together
pub telescope_is : {began now later : Contents} → Extends began now → Extends now later → (b : Binders) (e : ℕ) (others : List ℕ) (first inside opened gathered count : ℕ)
    → e < length began.trees → first < length began.trees → count ≡ length others
    → IsTree now opened (ahead (map (tree_at began) others) (tree_at began inside)) → IsTree later gathered (started b (tree_at now e) (tree_at now first) (tree_at now opened))
    → map_telescope (tree_at later) (record { binders = b; count = count; opened = opened; gathered = gathered })
    ≡ asked_for b (started b (tree_at began e) (tree_at began first) (ahead (map (tree_at began) others) (tree_at began inside))) (map (tree_at began) others) (tree_at began inside)
telescope_is {began} {now} {later} x y b e others first inside opened gathered count e_in first_in counts is_opened is_gathered =
    let n : count ≡ length (map (tree_at began) others) = counts ∙ sym (length-map others (tree_at began)) in
    let o = y.trees.same opened is_opened.known ∙ is_opened.is in
    let s = is_gathered.is ∙ (ap (λ t. started b t (tree_at now first) (tree_at now opened)) (x.trees.same e e_in)
    ∙ (ap (λ t. started b (tree_at began e) t (tree_at now opened)) (x.trees.same first first_in)
    ∙ ap (started b (tree_at began e) (tree_at began first)) is_opened.is)) in
    rw (n, o, s) refl
