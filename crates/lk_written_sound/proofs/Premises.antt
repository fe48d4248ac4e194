-- What the tests that lines are made of say.
use Rattle.std.proofs.Common.{ℕ, zero, suc, ◌≡◌, ◌<◌, ◌≤◌, ◌^◌, Bool, true, false, ◌&&◌, nat_lt, nat_le, List, [], ◌∷◌, Option, Some, None, refl, subst, ap, if◌then◌else◌, arith}
use Rattle.std.specs.Prelude.{slice_get}
use Rattle.std.proofs.lemmas.Bool.Decides.{nat_tests}
use Rattle.lk_tree.specs.Tree.{Level, Tree, var, sort, const, app, lam, pi, let_in, proj, lit, wide, str, local}
use Rattle.lk_tree.specs.Bind.{bound, Fresh}
use Rattle.lk_tree.specs.Spine.{apply}
use Rattle.lk_tree.specs.WellFormed.{IsWellFormed, IsWellFormedUnder}
use Rattle.lk_tree.specs.Level.{is_zero_level}
use Rattle.lk_tree.proofs.Zero.{zero_level_same}
use Rattle.lk_rulebook.specs.Place.{Place}
use Rattle.lk_rulebook.specs.Rules.{HasType, HasSort, has_sort, IsProposition, is_prop, Reduces, r_refl, IsDefEq, e_refl}
use Rattle.lk_rulebook.proofs.Scopes.{well_formed_of_type}
use Rattle.lk_questions.specs.Program.{Program, done, refuse, ask, look}
use Rattle.lk_questions.specs.Sound.{IsSound}
use Rattle.lk_questions.specs.Steps.{is_same_tree}
use Rattle.lk_claims.proofs.Pieces.{same_tree, halves}
use Rattle.lk_rulebook.specs.Claims.{Claim, types, reduces, equals, Derived, AllDerived}
use Rattle.lk_questions.specs.Tests.{◌>>=◌, test, passes, found}
use Rattle.lk_written.specs.Premises.{is_fine, as_sort, as_pi, as_const, is_fresh, fresh_local, Left, ends, Stated, next_claim, as_typing, as_reduction, as_equality, typing, reduction, equality, typed, next_reduct, reduced, next_equal, equal, to_sort, to_pi, sorted, is_prop_by, arguments_over}

abbrev pub IfSome : {A : Type 0} → Option A → (A → Type 0) → Type 0
IfSome (Some v) P = P v
IfSome None P = Unit {0}

pub if_bind : {A B : Type 0} (o : Option A) (k : A → Option B) (P : A → Type 0) (Q : B → Type 0) →
    IfSome o P → ((v : A) → P v → IfSome (k v) Q) → IfSome (o >>= k) Q
if_bind (Some v) k P Q h f = f v h
if_bind None k P Q h f = tt

pub if_map : {A : Type 0} (o : Option A) (P Q : A → Type 0) → IfSome o P → ((v : A) → P v → Q v) → IfSome o Q
if_map (Some v) P Q h f = f v h
if_map None P Q h f = tt

-- it is what the option holds
pub if_is : {A : Type 0} (o : Option A) → IfSome o (λ v. o ≡ Some v)
if_is (Some v) = refl
if_is None = tt

pub on_some : {A B : Type 0} (o : Option A) (k : A → Option B) (Q : B → Type 0) → ((v : A) → o ≡ Some v → IfSome (k v) Q) → IfSome (o >>= k) Q
on_some o k Q f = if_bind o k (λ v. o ≡ Some v) Q (if_is o) f

pub on_test : {B : Type 0} (b : Bool) (k : Unit {0} → Option B) (Q : B → Type 0) → (b ≡ true → IfSome (k tt) Q) → IfSome (test b >>= k) Q
on_test true k Q f = f refl
on_test false k Q f = tt

pub if_test : (b : Bool) (Q : Type 0) → (b ≡ true → Q) → IfSome (test b) (λ u. Q)
if_test true Q f = f refl
if_test false Q f = tt

pub passed : {A : Type 0} (o : Option A) (Q : Type 0) → IfSome o (λ v. Q) → passes o ≡ true → Q
passed (Some v) Q h e = h
passed None Q h e = absurd cc

pub on_none_left : {B : Type 0} (js : Left) (k : Unit {0} → Option B) (Q : B → Type 0) → IfSome (k tt) Q → IfSome (ends js >>= k) Q
on_none_left [] k Q h = h
on_none_left (j ∷ js) k Q h = tt

pub if_none_left : (js : Left) (Q : Type 0) → Q → IfSome (ends js) (λ u. Q)
if_none_left [] Q h = h
if_none_left (j ∷ js) Q h = tt

-- a sound program that asks nothing
pub found_right : {A : Type 0} (w : Place) (p : Program A) (P : A → Type 0) → IsSound w p P → IfSome (found w p) P
found_right w (done v) P s = s
found_right w (refuse r) P s = tt
found_right w (ask q k) P s = tt
found_right w (look r c k) P s = on_some (w.means c) _ P (λ g e. found_right w (k g) P (s g e))

pub fine_right : (d : ℕ) (e : Tree) → is_fine d e ≡ true → IsWellFormedUnder d e
fine_right d (var i) h = grind (arith, nat_tests)
fine_right d (sort l) h = tt
fine_right d (const c ls) h = tt
fine_right d (app f a) h = let x : (is_fine d f ≡ true) × (is_fine d a ≡ true) = halves (is_fine d f) (is_fine d a) h in (fine_right d f x.0, fine_right d a x.1)
fine_right d (lam A b) h = let x : (is_fine d A ≡ true) × (is_fine (suc d) b ≡ true) = halves (is_fine d A) (is_fine (suc d) b) h in (fine_right d A x.0, fine_right (suc d) b x.1)
fine_right d (pi A b) h = let x : (is_fine d A ≡ true) × (is_fine (suc d) b ≡ true) = halves (is_fine d A) (is_fine (suc d) b) h in (fine_right d A x.0, fine_right (suc d) b x.1)
fine_right d (let_in A v b) h =
    let x : (is_fine d A ≡ true) × ((is_fine d v && is_fine (suc d) b) ≡ true) = halves (is_fine d A) (is_fine d v && is_fine (suc d) b) h in
    let y : (is_fine d v ≡ true) × (is_fine (suc d) b ≡ true) = halves (is_fine d v) (is_fine (suc d) b) x.1 in
    (fine_right d A x.0, fine_right d v y.0, fine_right (suc d) b y.1)
fine_right d (proj S i s) h = fine_right d s h
fine_right d (lit n) h = below n (2 ^ 128) h
  where
    below : (i n : ℕ) → nat_lt i n ≡ true → i < n
    below i n h = grind (arith, nat_tests)
fine_right d wide h = absurd cc
fine_right d (str s) h = tt
fine_right d (local k T) h =
    let x : (is_fine 0 T ≡ true) × (nat_le (bound T) k ≡ true) = halves (is_fine 0 T) (nat_le (bound T) k) h in
    (fine_right 0 T x.0, most (bound T) k x.1)
  where
    most : (i n : ℕ) → nat_le i n ≡ true → i ≤ n
    most i n h = grind (arith, nat_tests)

pub at_most_right : (i n : ℕ) → nat_le i n ≡ true → i ≤ n
at_most_right i n h = grind (arith, nat_tests)

pub const_right : (h : Tree) → IfSome (as_const h) (λ c. h ≡ const c.0 c.1)
const_right (const c ls) = refl
const_right _ = tt

pub sort_right : (h : Tree) → IfSome (as_sort h) (λ l. h ≡ sort l)
sort_right (sort l) = refl
sort_right _ = tt

pub pi_right : (h : Tree) → IfSome (as_pi h) (λ p. h ≡ pi p.0 p.1)
pi_right (pi A B) = refl
pi_right _ = tt

fresh_trees : (k : ℕ) (es : List Tree) → is_fresh k es ≡ true → Fresh k es
fresh_trees k [] h = tt
fresh_trees k (e ∷ es) h =
    let x : (nat_le (bound e) k ≡ true) × (is_fresh k es ≡ true) = halves (nat_le (bound e) k) (is_fresh k es) h in
    (at_most_right (bound e) k x.0, fresh_trees k es x.1)

-- x is a Local of number k and type A, fresh for the trees
pub fresh_right : (A : Tree) (es : List Tree) (x : Tree) → IfSome (fresh_local A es x) (λ k. Fresh k es × (x ≡ local k A))
fresh_right A es (local k T) = on_test (is_same_tree T A && is_fresh k es) (λ u. Some k) (λ k. Fresh k es × (local _ T ≡ local k A)) (λ h.
    let y : (is_same_tree T A ≡ true) × (is_fresh k es ≡ true) = halves (is_same_tree T A) (is_fresh k es) h in
    (fresh_trees k es y.1, ap (local k) (same_tree T A y.0)))
fresh_right A es _ = tt

-- each claim has the property
abbrev pub Each : (Claim → Type 0) → List Claim → Type 0
Each P [] = Unit {0}
Each P (c ∷ cs) = P c × Each P cs

pub each_derived : (w : Place) (ps : List Claim) → AllDerived w ps → Each (Derived w) ps
each_derived w [] d = tt
each_derived w (c ∷ cs) d = (d.0, each_derived w cs d.1)

pub claim_there : (P : Claim → Type 0) (ps : List Claim) → Each P ps → (j : ℕ) → IfSome (slice_get ps j) P
claim_there P [] d j = tt
claim_there P (c ∷ cs) d zero = d.0
claim_there P (c ∷ cs) d (suc j) = claim_there P cs d.1 j

next_there : (P : Claim → Type 0) (ps : List Claim) → Each P ps → (js : Left) → IfSome (next_claim ps js) (λ c. P c.0)
next_there P ps d [] = tt
next_there P ps d (j ∷ js) = if_bind (slice_get ps j) _ P (λ c. P c.0) (claim_there P ps d j) (λ c h. h)

typing_in : (P : Claim → Type 0) (c : Claim) (js : Left) → P c → IfSome (as_typing c js) (λ s. P (types s.left s.right))
typing_in P (types e T) js h = h
typing_in P (reduces a b) js h = tt
typing_in P (equals a b) js h = tt

reduction_in : (P : Claim → Type 0) (c : Claim) (js : Left) → P c → IfSome (as_reduction c js) (λ s. P (reduces s.left s.right))
reduction_in P (types e T) js h = tt
reduction_in P (reduces a b) js h = h
reduction_in P (equals a b) js h = tt

equality_in : (P : Claim → Type 0) (c : Claim) (js : Left) → P c → IfSome (as_equality c js) (λ s. P (equals s.left s.right))
equality_in P (types e T) js h = tt
equality_in P (reduces a b) js h = tt
equality_in P (equals a b) js h = h

-- a premise that is taken as it is
pub on_reduction : (P : Claim → Type 0) (ps : List Claim) → Each P ps → (js : Left) {B : Type 0} (k : Stated → Option B) (Q : B → Type 0) →
    ((s : Stated) → P (reduces s.left s.right) → IfSome (k s) Q) → IfSome (reduction ps js >>= k) Q
on_reduction P ps d js k Q f = if_bind (reduction ps js) k (λ s. P (reduces s.left s.right)) Q
    (if_bind (next_claim ps js) _ (λ c. P c.0) (λ s. P (reduces s.left s.right)) (next_there P ps d js) (λ c h. reduction_in P c.0 c.1 h)) f

pub on_typing : (w : Place) (ps : List Claim) → AllDerived w ps → (js : Left) {B : Type 0} (k : Stated → Option B) (Q : B → Type 0) →
    ((s : Stated) → HasType w s.left s.right → IfSome (k s) Q) → IfSome (typing ps js >>= k) Q
on_typing w ps d js k Q f = if_bind (typing ps js) k (λ s. HasType w s.left s.right) Q
    (if_bind (next_claim ps js) _ (λ c. Derived w c.0) (λ s. HasType w s.left s.right) (next_there (Derived w) ps (each_derived w ps d) js) (λ c h. typing_in (Derived w) c.0 c.1 h)) f

on_equality : (w : Place) (ps : List Claim) → AllDerived w ps → (js : Left) {B : Type 0} (k : Stated → Option B) (Q : B → Type 0) →
    ((s : Stated) → IsDefEq w s.left s.right → IfSome (k s) Q) → IfSome (equality ps js >>= k) Q
on_equality w ps d js k Q f = if_bind (equality ps js) k (λ s. IsDefEq w s.left s.right) Q
    (if_bind (next_claim ps js) _ (λ c. Derived w c.0) (λ s. IsDefEq w s.left s.right) (next_there (Derived w) ps (each_derived w ps d) js) (λ c h. equality_in (Derived w) c.0 c.1 h)) f

pub typed_right : (w : Place) (ps : List Claim) → AllDerived w ps → (js : Left) (e : Tree) → IfSome (typed ps js e) (λ r. HasType w e r.0)
typed_right w ps d js e = on_typing w ps d js _ (λ r. HasType w e r.0) (λ s h.
    on_test (is_same_tree s.left e) (λ u. Some (s.right, s.after)) (λ r. HasType w e r.0) (λ t. subst (λ x. HasType w x s.right) (same_tree s.left e t) h))

next_reduct_right : (w : Place) (ps : List Claim) → AllDerived w ps → (js : Left) (e : Tree) → IfSome (next_reduct ps js e) (λ r. Reduces w e r.0)
next_reduct_right w ps d js e = on_reduction (Derived w) ps (each_derived w ps d) js _ (λ r. Reduces w e r.0) (λ s h.
    on_test (is_same_tree s.left e) (λ u. Some (s.right, s.after)) (λ r. Reduces w e r.0) (λ t. subst (λ x. Reduces w x s.right) (same_tree s.left e t) h))

pub reduced_right : (w : Place) (ps : List Claim) → AllDerived w ps → (js : Left) (e : Tree) → IsWellFormed e → IfSome (reduced ps js e) (λ r. Reduces w e r.0)
reduced_right w ps d js e f = go (next_reduct ps js e) (next_reduct_right w ps d js e)
  where
    go : (o : Option (Tree × Left)) → IfSome o (λ r. Reduces w e r.0) → IfSome (elim o as (λ x. Option (Tree × Left)) [ Some r ↦ Some r | None ↦ Some (e, js) ]) (λ r. Reduces w e r.0)
    go (Some r) h = h
    go None h = r_refl f

next_equal_right : (w : Place) (ps : List Claim) → AllDerived w ps → (js : Left) (a b : Tree) → IfSome (next_equal ps js a b) (λ r. IsDefEq w a b)
next_equal_right w ps d js a b = on_equality w ps d js _ (λ r. IsDefEq w a b) (λ s h.
    on_test (is_same_tree s.left a && is_same_tree s.right b) (λ u. Some s.after) (λ r. IsDefEq w a b) (λ t.
    let x : (is_same_tree s.left a ≡ true) × (is_same_tree s.right b ≡ true) = halves (is_same_tree s.left a) (is_same_tree s.right b) t in
    subst (λ y. IsDefEq w a y) (same_tree s.right b x.1) (subst (λ y. IsDefEq w y s.right) (same_tree s.left a x.0) h)))

pub equal_right : (w : Place) (ps : List Claim) → AllDerived w ps → (js : Left) (a b : Tree) → IsWellFormed a → IfSome (equal ps js a b) (λ r. IsDefEq w a b)
equal_right w ps d js a b f = go (is_same_tree a b) refl
  where
    go : (x : Bool) → is_same_tree a b ≡ x → IfSome (if x then Some js else next_equal ps js a b) (λ r. IsDefEq w a b)
    go true t = subst (λ y. IsDefEq w a y) (same_tree a b t) (e_refl f)
    go false t = next_equal_right w ps d js a b

pub to_sort_right : (w : Place) (ps : List Claim) → AllDerived w ps → (js : Left) (S : Tree) → IsWellFormed S → IfSome (to_sort ps js S) (λ r. Reduces w S (sort r.0))
to_sort_right w ps d js S f = if_bind (reduced ps js S) _ (λ b. Reduces w S b.0) (λ r. Reduces w S (sort r.0)) (reduced_right w ps d js S f)
    (λ b h. if_bind (as_sort b.0) _ (λ l. b.0 ≡ sort l) (λ r. Reduces w S (sort r.0)) (sort_right b.0) (λ l e. subst (λ x. Reduces w S x) e h))

pub to_pi_right : (w : Place) (ps : List Claim) → AllDerived w ps → (js : Left) (F : Tree) → IsWellFormed F → IfSome (to_pi ps js F) (λ r. Reduces w F (pi r.0.0 r.0.1))
to_pi_right w ps d js F f = if_bind (reduced ps js F) _ (λ b. Reduces w F b.0) (λ r. Reduces w F (pi r.0.0 r.0.1)) (reduced_right w ps d js F f)
    (λ b h. if_bind (as_pi b.0) _ (λ p. b.0 ≡ pi p.0 p.1) (λ r. Reduces w F (pi r.0.0 r.0.1)) (pi_right b.0) (λ p e. subst (λ x. Reduces w F x) e h))

pub sorted_right : (w : Place) (ps : List Claim) → AllDerived w ps → (js : Left) (A : Tree) → IfSome (sorted ps js A) (λ r. HasSort w A r.0)
sorted_right w ps d js A = if_bind (typed ps js A) _ (λ S. HasType w A S.0) (λ r. HasSort w A r.0) (typed_right w ps d js A)
    (λ S h. if_map (to_sort ps S.1 S.0) (λ r. Reduces w S.0 (sort r.0)) (λ r. HasSort w A r.0) (to_sort_right w ps d S.1 S.0 (well_formed_of_type h).1) (λ r k. has_sort h k))

pub is_prop_right : (w : Place) (ps : List Claim) → AllDerived w ps → (js : Left) (A : Tree) → IfSome (is_prop_by ps js A) (λ r. IsProposition w A)
is_prop_right w ps d js A = if_bind (sorted ps js A) _ (λ l. HasSort w A l.0) (λ r. IsProposition w A) (sorted_right w ps d js A)
    (λ l h. on_test (is_zero_level l.0) _ (λ r. IsProposition w A) (λ z. is_prop h (zero_level_same l.0 z)))

-- e is f applied to the arguments
pub arguments_right : (f e : Tree) (xs : List Tree) → IfSome (arguments_over f e xs) (λ ys. apply e xs ≡ apply f ys)
arguments_right f (app g x) xs = go (is_same_tree g f) refl (arguments_right f g (x ∷ xs))
  where
    go : (b : Bool) → is_same_tree g f ≡ b → IfSome (arguments_over f g (x ∷ xs)) (λ ys. apply (app g x) xs ≡ apply f ys) →
        IfSome (if b then Some (x ∷ xs) else arguments_over f g (x ∷ xs)) (λ ys. apply (app g x) xs ≡ apply f ys)
    go true t h = ap (λ z. apply (app z x) xs) (same_tree g f t)
    go false t h = h
arguments_right f _ xs = tt

-- a rule's next step, by what it reads
pub on_typed : (w : Place) (ps : List Claim) → AllDerived w ps → (js : Left) (e : Tree) {B : Type 0} (k : Tree × Left → Option B) (Q : B → Type 0) →
    ((r : Tree × Left) → HasType w e r.0 → IfSome (k r) Q) → IfSome (typed ps js e >>= k) Q
on_typed w ps d js e k Q f = if_bind (typed ps js e) k (λ r. HasType w e r.0) Q (typed_right w ps d js e) f

pub on_reduced : (w : Place) (ps : List Claim) → AllDerived w ps → (js : Left) (e : Tree) → IsWellFormed e → {B : Type 0} (k : Tree × Left → Option B) (Q : B → Type 0) →
    ((r : Tree × Left) → Reduces w e r.0 → IfSome (k r) Q) → IfSome (reduced ps js e >>= k) Q
on_reduced w ps d js e g k Q f = if_bind (reduced ps js e) k (λ r. Reduces w e r.0) Q (reduced_right w ps d js e g) f

pub on_equal : (w : Place) (ps : List Claim) → AllDerived w ps → (js : Left) (a b : Tree) → IsWellFormed a → {B : Type 0} (k : Left → Option B) (Q : B → Type 0) →
    ((r : Left) → IsDefEq w a b → IfSome (k r) Q) → IfSome (equal ps js a b >>= k) Q
on_equal w ps d js a b g k Q f = if_bind (equal ps js a b) k (λ r. IsDefEq w a b) Q (equal_right w ps d js a b g) f

pub on_sorted : (w : Place) (ps : List Claim) → AllDerived w ps → (js : Left) (A : Tree) {B : Type 0} (k : Level × Left → Option B) (Q : B → Type 0) →
    ((r : Level × Left) → HasSort w A r.0 → IfSome (k r) Q) → IfSome (sorted ps js A >>= k) Q
on_sorted w ps d js A k Q f = if_bind (sorted ps js A) k (λ r. HasSort w A r.0) Q (sorted_right w ps d js A) f

pub on_pi : (w : Place) (ps : List Claim) → AllDerived w ps → (js : Left) (F : Tree) {B : Type 0} (k : (Tree × Tree) × Left → Option B) (Q : B → Type 0) → IsWellFormed F →
    ((r : (Tree × Tree) × Left) → Reduces w F (pi r.0.0 r.0.1) → IfSome (k r) Q) → IfSome (to_pi ps js F >>= k) Q
on_pi w ps d js F k Q g f = if_bind (to_pi ps js F) k (λ r. Reduces w F (pi r.0.0 r.0.1)) Q (to_pi_right w ps d js F g) f

pub on_fresh : (A : Tree) (es : List Tree) (x : Tree) {B : Type 0} (k : ℕ → Option B) (Q : B → Type 0) → ((m : ℕ) → Fresh m es → x ≡ local m A → IfSome (k m) Q) → IfSome (fresh_local A es x >>= k) Q
on_fresh A es x k Q f = if_bind (fresh_local A es x) k (λ m. Fresh m es × (x ≡ local m A)) Q (fresh_right A es x) (λ m h. f m h.0 h.1)
