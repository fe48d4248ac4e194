-- Reading back leaves alone what has no marked name, and finds what stands for an auxiliary type.
use Rattle.std.proofs.Common.{ℕ, zero, suc, ◌≡◌, ◌+◌, inl, inr, Bool, true, false, List, [], ◌∷◌, ◌++◌, map, Some, None, refl, ap, subst, ◌∙◌, if◌then◌else◌, arith}
use Rattle.lk_tree.specs.Tree.{tree_discrete, Name, name_discrete, param, Tree, var, sort, const, app, lam, pi, let_in, proj, lit, wide, str, local}
use Rattle.lk_tree.specs.Spine.{apply}
use Rattle.lk_rulebook.specs.Place.{Ctor}
use Rattle.lk_tree.specs.Mentions.{same_name}
use Rattle.lk_questions.specs.Steps.{decided, is_same_tree}
use Rattle.lk_inductive.specs.BlockSteps.{after_params}
use Rattle.lk_inductive.specs.Recursors.{rec_name}
use Rattle.lk_inductive.specs.Nested.{Aux, Setting, aux_name, aux_ctor, aux_from}
use Rattle.lk_inductive.specs.Restore.{Original, applied_to, renamed_as, ctors_stand, rec_numbered, all_stand, stands_for, after_own, put_back, restore}
use Rattle.lk_inductive.specs.NestedRelation.{IsMarked, Clear}
use Rattle.lk_sound.proofs.Positive.{name_of}

abbrev pub AllClear : List Tree → Type 0
AllClear [] = Unit {0}
AllClear (x ∷ xs) = Clear x × AllClear xs

-- a list of names and what stands for them, all marked
abbrev pub AllMarked : List (Name × Original) → Type 0
AllMarked [] = Unit {0}
AllMarked (m ∷ ms) = IsMarked m.0 × AllMarked ms

marked_append : (xs ys : List (Name × Original)) → AllMarked xs → AllMarked ys → AllMarked (xs ++ ys)
marked_append [] ys h i = i
marked_append (x ∷ xs) ys h i = (h.0, marked_append xs ys h.1 i)

ctors_marked : (i : ℕ) (a : Aux) (cs : List Ctor) → AllMarked (ctors_stand i a cs)
ctors_marked i a [] = tt
ctors_marked i a (c ∷ cs) = ((_, inr refl), ctors_marked i a cs)

pub all_marked : (T₁ : Name) (i : ℕ) (as_ : List Aux) → AllMarked (all_stand T₁ i as_)
all_marked T₁ i [] = tt
all_marked T₁ i (a ∷ as_) = ((_, inl refl), ((_, inl refl), marked_append (ctors_stand i a a.own.ctors) (all_stand T₁ (suc i) as_) (ctors_marked i a a.own.ctors) (all_marked T₁ (suc i) as_)))

none_stands : (ms : List (Name × Original)) (c : Name) → AllMarked ms → (IsMarked c → ⊥) → stands_for ms c ≡ None
none_stands [] c h n = refl
none_stands (m ∷ ms) c h n = go (none_stands ms c h.1 n) (same_name m.0 c) refl
  where
    go : stands_for ms c ≡ None → (b : Bool) → same_name m.0 c ≡ b → (if b then Some m.1 else stands_for ms c) ≡ None
    go i true e = let s : m.0 ≡ c = name_of m.0 c e in absurd (n (subst IsMarked s h.0))
    go i false e = i

-- a tree without such names is read back as it is
pub clear_back : (ms : List (Name × Original)) (s : Setting) (e : Tree) (xs : List Tree) → AllMarked ms → Clear e → restore ms s e xs ≡ apply e xs
clear_back ms s (app f a) xs m h = clear_back ms s f (restore ms s a [] ∷ xs) m h.0 ∙ ap (λ b. apply (app f b) xs) (clear_back ms s a [] m h.1)
clear_back ms s (const c ls) xs m h = ap (put_back s c ls xs) (none_stands ms c m h)
clear_back ms s (lam A b) xs m h = ap (λ D. apply (lam D (restore ms s b [])) xs) (clear_back ms s A [] m h.0) ∙ ap (λ c. apply (lam A c) xs) (clear_back ms s b [] m h.1)
clear_back ms s (pi A b) xs m h = ap (λ D. apply (pi D (restore ms s b [])) xs) (clear_back ms s A [] m h.0) ∙ ap (λ c. apply (pi A c) xs) (clear_back ms s b [] m h.1)
clear_back ms s (let_in A v b) xs m h =
    ap (λ D. apply (let_in D (restore ms s v []) (restore ms s b [])) xs) (clear_back ms s A [] m h.0)
    ∙ (ap (λ u. apply (let_in A u (restore ms s b [])) xs) (clear_back ms s v [] m h.1) ∙ ap (λ c. apply (let_in A v c) xs) (clear_back ms s b [] m h.2))
clear_back ms s (proj S i e) xs m h = ap (λ c. apply (proj S i c) xs) (clear_back ms s e [] m h)
clear_back ms s (var i) xs m h = refl
clear_back ms s (sort l) xs m h = refl
clear_back ms s (lit k) xs m h = refl
clear_back ms s wide xs m h = refl
clear_back ms s (str k) xs m h = refl
clear_back ms s (local k T) xs m h = refl

-- arguments read back
pub backs : List (Name × Original) → Setting → List Tree → List Tree
backs ms s [] = []
backs ms s (x ∷ xs) = restore ms s x [] ∷ backs ms s xs

pub back_apply : (ms : List (Name × Original)) (s : Setting) (h : Tree) (ys xs : List Tree) → restore ms s (apply h ys) xs ≡ restore ms s h (backs ms s ys ++ xs)
unfolding backs
back_apply ms s h [] xs = refl
back_apply ms s h (y ∷ ys) xs = back_apply ms s (app h y) ys xs

same_as_itself : (a : Tree) → is_same_tree a a ≡ true
same_as_itself a = go (tree_discrete a a)
  where
    go : (d : Dec (a ≡ a)) → decided d ≡ true
    go (yes e) = refl
    go (no f) = absurd (f refl)

pub after_itself : (ps xs : List Tree) → after_params ps (ps ++ xs) ≡ Some xs
after_itself [] xs = refl
after_itself (p ∷ ps) xs = ap (λ b. if b then after_params ps (ps ++ xs) else None) (same_as_itself p) ∙ after_itself ps xs

-- the block's own levels, and P0 .. first
pub after_own_itself : (s : Setting) (c : Name) (xs : List Tree) → after_own s c (map param s.levels) (s.params ++ xs) ≡ Some xs
after_own_itself s c xs = ap (λ b. if b then after_params s.params (s.params ++ xs) else None) (same_as_itself (const c (map param s.levels))) ∙ after_itself s.params xs

pub clear_backs : (ms : List (Name × Original)) (s : Setting) (ys : List Tree) → AllMarked ms → AllClear ys → backs ms s ys ≡ ys
unfolding backs
clear_backs ms s [] m h = refl
clear_backs ms s (y ∷ ys) m h = ap (λ z. z ∷ backs ms s ys) (clear_back ms s y [] m h.0) ∙ ap (λ zs. y ∷ zs) (clear_backs ms s ys m h.1)

-- the same name
pub same_itself : (c : Name) → same_name c c ≡ true
same_itself c = go (name_discrete c c)
  where
    go : (d : Dec (c ≡ c)) → elim d as (λ y. Bool) [ yes e ↦ true | no f ↦ false ] ≡ true
    go (yes e) = refl
    go (no f) = absurd (f refl)

pub other_name : (c d : Name) → (c ≡ d → ⊥) → same_name c d ≡ false
other_name c d n = go (name_discrete c d)
  where
    go : (x : Dec (c ≡ d)) → elim x as (λ y. Bool) [ yes e ↦ true | no f ↦ false ] ≡ false
    go (yes e) = absurd (n e)
    go (no f) = refl

skip : (m : Name × Original) (ms : List (Name × Original)) (c : Name) → (m.0 ≡ c → ⊥) → stands_for (m ∷ ms) c ≡ stands_for ms c
skip m ms c n = ap (λ b. if b then Some m.1 else stands_for ms c) (other_name m.0 c n)

stands_here : (m : Name × Original) (ms : List (Name × Original)) → stands_for (m ∷ ms) m.0 ≡ Some m.1
stands_here m ms = ap (λ b. if b then Some m.1 else stands_for ms m.0) (same_itself m.0)

skip_ctors : (i j : ℕ) (a : Aux) (cs : List Ctor) (ms : List (Name × Original)) → stands_for (ctors_stand i a cs ++ ms) (aux_name j) ≡ stands_for ms (aux_name j)
skip_ctors i j a [] ms = refl
skip_ctors i j a (c ∷ cs) ms = skip (aux_ctor i c.name, applied_to c.name a.levels a.args) (ctors_stand i a cs ++ ms) (aux_name j) (λ e. cc) ∙ skip_ctors i j a cs ms

pub aux_stands : (T₁ : Name) (k i : ℕ) (bs : List Aux) (a : Aux) → aux_from bs i ≡ Some a → stands_for (all_stand T₁ k bs) (aux_name (k + i)) ≡ Some (applied_to a.name a.levels a.args)
aux_stands T₁ k i [] a e = absurd cc
aux_stands T₁ k zero (b ∷ bs) a e =
    let s : b ≡ a = cc in
    let z : k + 0 ≡ k = omega arith in
    let rest : List (Name × Original) = (rec_name (aux_name k), renamed_as (rec_numbered T₁ (suc k))) ∷ (ctors_stand k b b.own.ctors ++ all_stand T₁ (suc k) bs) in
    let first : stands_for (all_stand T₁ k (b ∷ bs)) (aux_name k) ≡ Some (applied_to b.name b.levels b.args) = stands_here (aux_name k, applied_to b.name b.levels b.args) rest in
    ap (λ n. stands_for (all_stand T₁ k (b ∷ bs)) (aux_name n)) z ∙ (first ∙ ap (λ x. Some (applied_to x.name x.levels x.args)) s)
aux_stands T₁ k (suc i) (b ∷ bs) a e =
    let rest : List (Name × Original) = ctors_stand k b b.own.ctors ++ all_stand T₁ (suc k) bs in
    skip (aux_name k, applied_to b.name b.levels b.args) ((rec_name (aux_name k), renamed_as (rec_numbered T₁ (suc k))) ∷ rest) (aux_name (k + suc i)) (λ h. let q : k ≡ k + suc i = cc in absurd (omega (arith, q)))
    ∙ (skip (rec_name (aux_name k), renamed_as (rec_numbered T₁ (suc k))) rest (aux_name (k + suc i)) (λ h. cc)
    ∙ (skip_ctors k (k + suc i) b b.own.ctors (all_stand T₁ (suc k) bs)
    ∙ (ap (λ n. stands_for (all_stand T₁ (suc k) bs) (aux_name n)) (omega arith) ∙ aux_stands T₁ (suc k) i bs a e)))
