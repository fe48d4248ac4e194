-- The scans of a tree are right.
use Rattle.std.proofs.Common.{ℕ, suc, ◌≡◌, ◌<◌, ◌^◌, inl, inr, nat_lt, Bool, true, false, ◌&&◌, not, List, [], ◌∷◌, refl, arith}
use Rattle.std.proofs.lemmas.Bool.Decides.{nat_tests}
use Rattle.lk_tree.specs.Tree.{Name, name_discrete, Level, zero_level, succ_level, max_level, imax_level, param, Tree, var, sort, const, app, lam, pi, let_in, proj, lit, wide, str, local}
use Rattle.lk_tree.specs.Bind.{bound}
use Rattle.lk_tree.specs.WellFormed.{IsWellFormedUnder}
use Rattle.lk_tree.specs.Mentions.{is_one_of}
use Rattle.lk_tree.specs.Scan.{is_bound, is_narrow, IsNameIn, NoneTwice, none_twice, LevelOver, LevelsOver, TreeOver, level_over, levels_over, tree_over}

pub both_true : (a b : Bool) → (a && b) ≡ true → (a ≡ true) × (b ≡ true)
both_true true true h = (refl, refl)
both_true true false h = absurd cc
both_true false b h = absurd cc

pub not_true : (a : Bool) → not a ≡ true → a ≡ false
not_true true h = absurd cc
not_true false h = refl

below : (i n : ℕ) → nat_lt i n ≡ true → i < n
below i n h = grind (arith, nat_tests)

pub bound_closed : (n : ℕ) (e : Tree) → is_bound n e ≡ true → is_narrow e ≡ true → IsWellFormedUnder n e × (bound e ≡ 0)
unfolding bound
bound_closed n (var i) b r = (below i n b, refl)
bound_closed n (sort l) b r = (tt, refl)
bound_closed n (const c ls) b r = (tt, refl)
bound_closed n (app f a) b r =
    let x : (is_bound n f ≡ true) × (is_bound n a ≡ true) = both_true (is_bound n f) (is_bound n a) b in
    let y : (is_narrow f ≡ true) × (is_narrow a ≡ true) = both_true (is_narrow f) (is_narrow a) r in
    let p : IsWellFormedUnder n f × (bound f ≡ 0) = bound_closed n f x.0 y.0 in
    let q : IsWellFormedUnder n a × (bound a ≡ 0) = bound_closed n a x.1 y.1 in
    ((p.0, q.0), omega (arith, p.1, q.1))
bound_closed n (lam A c) b r =
    let x : (is_bound n A ≡ true) × (is_bound (suc n) c ≡ true) = both_true (is_bound n A) (is_bound (suc n) c) b in
    let y : (is_narrow A ≡ true) × (is_narrow c ≡ true) = both_true (is_narrow A) (is_narrow c) r in
    let p : IsWellFormedUnder n A × (bound A ≡ 0) = bound_closed n A x.0 y.0 in
    let q : IsWellFormedUnder (suc n) c × (bound c ≡ 0) = bound_closed (suc n) c x.1 y.1 in
    ((p.0, q.0), omega (arith, p.1, q.1))
bound_closed n (pi A c) b r =
    let x : (is_bound n A ≡ true) × (is_bound (suc n) c ≡ true) = both_true (is_bound n A) (is_bound (suc n) c) b in
    let y : (is_narrow A ≡ true) × (is_narrow c ≡ true) = both_true (is_narrow A) (is_narrow c) r in
    let p : IsWellFormedUnder n A × (bound A ≡ 0) = bound_closed n A x.0 y.0 in
    let q : IsWellFormedUnder (suc n) c × (bound c ≡ 0) = bound_closed (suc n) c x.1 y.1 in
    ((p.0, q.0), omega (arith, p.1, q.1))
bound_closed n (let_in A v c) b r =
    let x : (is_bound n A ≡ true) × ((is_bound n v && is_bound (suc n) c) ≡ true) = both_true (is_bound n A) (is_bound n v && is_bound (suc n) c) b in
    let y : (is_narrow A ≡ true) × ((is_narrow v && is_narrow c) ≡ true) = both_true (is_narrow A) (is_narrow v && is_narrow c) r in
    let x' : (is_bound n v ≡ true) × (is_bound (suc n) c ≡ true) = both_true (is_bound n v) (is_bound (suc n) c) x.1 in
    let y' : (is_narrow v ≡ true) × (is_narrow c ≡ true) = both_true (is_narrow v) (is_narrow c) y.1 in
    let p : IsWellFormedUnder n A × (bound A ≡ 0) = bound_closed n A x.0 y.0 in
    let q : IsWellFormedUnder n v × (bound v ≡ 0) = bound_closed n v x'.0 y'.0 in
    let s : IsWellFormedUnder (suc n) c × (bound c ≡ 0) = bound_closed (suc n) c x'.1 y'.1 in
    ((p.0, q.0, s.0), omega (arith, p.1, q.1, s.1))
bound_closed n (proj S i s) b r = bound_closed n s b r
bound_closed n (lit i) b r = (below i (2 ^ 128) r, refl)
bound_closed n wide b r = absurd cc
bound_closed n (str s) b r = (tt, refl)
bound_closed n (local k T) b r = absurd cc

name_right : (c : Name) (ps : List Name) → is_one_of ps c ≡ true → IsNameIn c ps
name_right c [] h = absurd cc
name_right c (p ∷ ps) h = go (name_right c ps) (name_discrete p c) h
  where
    go : (is_one_of ps c ≡ true → IsNameIn c ps) → (d : Dec (p ≡ c)) → elim d as (λ y. Bool) [ yes e ↦ true | no f ↦ is_one_of ps c ] ≡ true → IsNameIn c (p ∷ ps)
    go r (yes e) k = inl e
    go r (no f) k = inr (r k)

not_there : (c : Name) (ps : List Name) → is_one_of ps c ≡ false → IsNameIn c ps → ⊥
not_there c [] h m = m
not_there c (p ∷ ps) h m = go (not_there c ps) (name_discrete p c) h m
  where
    go : (is_one_of ps c ≡ false → IsNameIn c ps → ⊥) → (d : Dec (p ≡ c)) → elim d as (λ y. Bool) [ yes e ↦ true | no f ↦ is_one_of ps c ] ≡ false → IsNameIn c (p ∷ ps) → ⊥
    go r (yes e) k i = absurd cc
    go r (no f) k (inl e) = f e
    go r (no f) k (inr i) = r k i

pub distinct_right : (ps : List Name) → none_twice ps ≡ true → NoneTwice ps
distinct_right [] h = tt
distinct_right (p ∷ ps) h =
    let x : (not (is_one_of ps p) ≡ true) × (none_twice ps ≡ true) = both_true (not (is_one_of ps p)) (none_twice ps) h in
    (not_there p ps (not_true (is_one_of ps p) x.0), distinct_right ps x.1)

level_right : (ps : List Name) (l : Level) → level_over ps l ≡ true → LevelOver ps l
level_right ps zero_level h = tt
level_right ps (succ_level l) h = level_right ps l h
level_right ps (max_level l m) h = let x : (level_over ps l ≡ true) × (level_over ps m ≡ true) = both_true (level_over ps l) (level_over ps m) h in (level_right ps l x.0, level_right ps m x.1)
level_right ps (imax_level l m) h = let x : (level_over ps l ≡ true) × (level_over ps m ≡ true) = both_true (level_over ps l) (level_over ps m) h in (level_right ps l x.0, level_right ps m x.1)
level_right ps (param n) h = name_right n ps h

levels_right : (ps : List Name) (ls : List Level) → levels_over ps ls ≡ true → LevelsOver ps ls
levels_right ps [] h = tt
levels_right ps (l ∷ ls) h = let x : (level_over ps l ≡ true) × (levels_over ps ls ≡ true) = both_true (level_over ps l) (levels_over ps ls) h in (level_right ps l x.0, levels_right ps ls x.1)

pub tree_right : (ps : List Name) (e : Tree) → tree_over ps e ≡ true → TreeOver ps e
tree_right ps (sort l) h = level_right ps l h
tree_right ps (const c ls) h = levels_right ps ls h
tree_right ps (app f a) h = let x : (tree_over ps f ≡ true) × (tree_over ps a ≡ true) = both_true (tree_over ps f) (tree_over ps a) h in (tree_right ps f x.0, tree_right ps a x.1)
tree_right ps (lam A b) h = let x : (tree_over ps A ≡ true) × (tree_over ps b ≡ true) = both_true (tree_over ps A) (tree_over ps b) h in (tree_right ps A x.0, tree_right ps b x.1)
tree_right ps (pi A b) h = let x : (tree_over ps A ≡ true) × (tree_over ps b ≡ true) = both_true (tree_over ps A) (tree_over ps b) h in (tree_right ps A x.0, tree_right ps b x.1)
tree_right ps (let_in A v b) h =
    let x : (tree_over ps A ≡ true) × ((tree_over ps v && tree_over ps b) ≡ true) = both_true (tree_over ps A) (tree_over ps v && tree_over ps b) h in
    let y : (tree_over ps v ≡ true) × (tree_over ps b ≡ true) = both_true (tree_over ps v) (tree_over ps b) x.1 in
    (tree_right ps A x.0, tree_right ps v y.0, tree_right ps b y.1)
tree_right ps (proj S i s) h = tree_right ps s h
tree_right ps (local k T) h = tree_right ps T h
tree_right ps (var i) h = tt
tree_right ps (lit n) h = tt
tree_right ps wide h = tt
tree_right ps (str s) h = tt

-- and what is so passes
pub and_true : (a b : Bool) → a ≡ true → b ≡ true → (a && b) ≡ true
and_true true true h k = refl
and_true true false h k = absurd cc
and_true false b h k = absurd cc

is_below : (i n : ℕ) → i < n → nat_lt i n ≡ true
is_below i n h = grind (arith, nat_tests)

abbrev Passes : ℕ → Tree → Type 0
Passes n e = (is_bound n e ≡ true) × (is_narrow e ≡ true)

two_pass : (m n : ℕ) (a b : Tree) → Passes m a → Passes n b → ((is_bound m a && is_bound n b) ≡ true) × ((is_narrow a && is_narrow b) ≡ true)
two_pass m n a b h k = (and_true (is_bound m a) (is_bound n b) h.0 k.0, and_true (is_narrow a) (is_narrow b) h.1 k.1)

pub closed_passes : (n : ℕ) (e : Tree) → IsWellFormedUnder n e → bound e ≡ 0 → Passes n e
unfolding bound
closed_passes n (var i) f b = (is_below i n f, refl)
closed_passes n (sort l) f b = (refl, refl)
closed_passes n (const c ls) f b = (refl, refl)
closed_passes n (app g a) f b = two_pass n n g a (closed_passes n g f.0 (omega arith)) (closed_passes n a f.1 (omega arith))
closed_passes n (lam A c) f b = two_pass n (suc n) A c (closed_passes n A f.0 (omega arith)) (closed_passes (suc n) c f.1 (omega arith))
closed_passes n (pi A c) f b = two_pass n (suc n) A c (closed_passes n A f.0 (omega arith)) (closed_passes (suc n) c f.1 (omega arith))
closed_passes n (let_in A v c) f b =
    let p : Passes n A = closed_passes n A f.0 (omega arith) in
    let q : ((is_bound n v && is_bound (suc n) c) ≡ true) × ((is_narrow v && is_narrow c) ≡ true) = two_pass n (suc n) v c (closed_passes n v f.1 (omega arith)) (closed_passes (suc n) c f.2 (omega arith)) in
    (and_true (is_bound n A) (is_bound n v && is_bound (suc n) c) p.0 q.0, and_true (is_narrow A) (is_narrow v && is_narrow c) p.1 q.1)
closed_passes n (proj S i s) f b = closed_passes n s f b
closed_passes n (lit i) f b = (refl, is_below i (2 ^ 128) f)
closed_passes n wide f b = absurd f
closed_passes n (str s) f b = (refl, refl)
closed_passes n (local k T) f b = absurd (omega arith)

name_listed : (c : Name) (ps : List Name) → IsNameIn c ps → is_one_of ps c ≡ true
name_listed c [] h = absurd h
name_listed c (p ∷ ps) h = go (name_listed c ps) (name_discrete p c) h
  where
    go : (IsNameIn c ps → is_one_of ps c ≡ true) → (d : Dec (p ≡ c)) → IsNameIn c (p ∷ ps) → elim d as (λ y. Bool) [ yes e ↦ true | no f ↦ is_one_of ps c ] ≡ true
    go r (yes e) k = refl
    go r (no f) (inl e) = absurd (f e)
    go r (no f) (inr i) = r i

is_false : (b : Bool) → (b ≡ true → ⊥) → not b ≡ true
is_false true h = absurd (h refl)
is_false false h = refl

pub distinct_passes : (ps : List Name) → NoneTwice ps → none_twice ps ≡ true
distinct_passes [] h = refl
distinct_passes (p ∷ ps) h = and_true (not (is_one_of ps p)) (none_twice ps) (is_false (is_one_of ps p) (λ t. h.0 (name_right p ps t))) (distinct_passes ps h.1)

level_passes : (ps : List Name) (l : Level) → LevelOver ps l → level_over ps l ≡ true
level_passes ps zero_level h = refl
level_passes ps (succ_level l) h = level_passes ps l h
level_passes ps (max_level l m) h = and_true (level_over ps l) (level_over ps m) (level_passes ps l h.0) (level_passes ps m h.1)
level_passes ps (imax_level l m) h = and_true (level_over ps l) (level_over ps m) (level_passes ps l h.0) (level_passes ps m h.1)
level_passes ps (param n) h = name_listed n ps h

levels_pass : (ps : List Name) (ls : List Level) → LevelsOver ps ls → levels_over ps ls ≡ true
levels_pass ps [] h = refl
levels_pass ps (l ∷ ls) h = and_true (level_over ps l) (levels_over ps ls) (level_passes ps l h.0) (levels_pass ps ls h.1)

pub tree_passes : (ps : List Name) (e : Tree) → TreeOver ps e → tree_over ps e ≡ true
tree_passes ps (sort l) h = level_passes ps l h
tree_passes ps (const c ls) h = levels_pass ps ls h
tree_passes ps (app f a) h = and_true (tree_over ps f) (tree_over ps a) (tree_passes ps f h.0) (tree_passes ps a h.1)
tree_passes ps (lam A b) h = and_true (tree_over ps A) (tree_over ps b) (tree_passes ps A h.0) (tree_passes ps b h.1)
tree_passes ps (pi A b) h = and_true (tree_over ps A) (tree_over ps b) (tree_passes ps A h.0) (tree_passes ps b h.1)
tree_passes ps (let_in A v b) h = and_true (tree_over ps A) (tree_over ps v && tree_over ps b) (tree_passes ps A h.0) (and_true (tree_over ps v) (tree_over ps b) (tree_passes ps v h.1) (tree_passes ps b h.2))
tree_passes ps (proj S i s) h = tree_passes ps s h
tree_passes ps (local k T) h = tree_passes ps T h
tree_passes ps (var i) h = refl
tree_passes ps (lit n) h = refl
tree_passes ps wide h = refl
tree_passes ps (str s) h = refl
