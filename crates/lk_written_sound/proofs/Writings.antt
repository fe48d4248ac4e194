-- Lines are written one after the other.
use Rattle.std.proofs.Common.{ℕ, zero, suc, ◌≡◌, ◌<◌, ◌≤◌, ◌^◌, ◌⊎◌, inl, inr, Bool, true, false, ◌&&◌, nat_eq, nat_lt, nat_le, length, List, [], ◌∷◌, ◌++◌, Option, Some, None, refl, subst, ap, ◌∙◌, if◌then◌else◌, arith}
use Rattle.std.specs.Prelude.{slice_get}
use Rattle.std.proofs.lemmas.Bool.Decides.{nat_tests}
use Rattle.lk_tree.specs.Tree.{Level, Tree, var, sort, const, app, lam, pi, let_in, proj, lit, wide, str, local}
use Rattle.lk_tree.specs.Bind.{bound, Fresh}
use Rattle.lk_tree.specs.WellFormed.{IsWellFormed, IsWellFormedUnder}
use Rattle.lk_tree.proofs.Scans.{and_true}
use Rattle.lk_rulebook.specs.Place.{Place}
use Rattle.lk_questions.specs.Steps.{is_same_tree}
use Rattle.lk_claims.proofs.Pieces.{Some_inj, same_tree}
use Rattle.lk_rulebook.specs.Claims.{Claim, types, reduces, equals}
use Rattle.lk_written.specs.Line.{TypingRule, ReductionRule, EqualityRule, Line, ty, rd, cv, claim_of}
use Rattle.lk_questions.specs.Tests.{◌>>=◌, test, passes}
use Rattle.lk_written.specs.Premises.{is_fine, Left, typing, reduction, typed, next_reduct, reduced, next_equal, equal, to_pi, sorted, is_fresh, fresh_local}
use Rattle.lk_written.specs.Typing.{comes_to, type_test}
use Rattle.lk_written.specs.Reducing.{red_test}
use Rattle.lk_written.specs.Equal.{eq_test}
use Rattle.lk_written.specs.Section.{are_fine, line_holds, claims_by}
use Rattle.lk_rulebook.specs.Claims.{IsShaped}
use Rattle.lk_written.specs.Written.{Keeps, Stands, IsWritten}
use Rattle.lk_claims.proofs.Facts.{same_self, pass_test, some_on}

is_below : (i n : ℕ) → i < n → nat_lt i n ≡ true
is_below i n h = grind (arith, nat_tests)

is_most : (i n : ℕ) → i ≤ n → nat_le i n ≡ true
is_most i n h = grind (arith, nat_tests)

pub are_equal : (m n : ℕ) → m ≡ n → nat_eq m n ≡ true
are_equal m n e = grind (arith, nat_tests)

pub fine_passes : (d : ℕ) (e : Tree) → IsWellFormedUnder d e → is_fine d e ≡ true
fine_passes d (var i) f = is_below i d f
fine_passes d (sort l) f = refl
fine_passes d (const c ls) f = refl
fine_passes d (app g a) f = and_true (is_fine d g) (is_fine d a) (fine_passes d g f.0) (fine_passes d a f.1)
fine_passes d (lam A b) f = and_true (is_fine d A) (is_fine (suc d) b) (fine_passes d A f.0) (fine_passes (suc d) b f.1)
fine_passes d (pi A b) f = and_true (is_fine d A) (is_fine (suc d) b) (fine_passes d A f.0) (fine_passes (suc d) b f.1)
fine_passes d (let_in A v b) f = and_true (is_fine d A) (is_fine d v && is_fine (suc d) b) (fine_passes d A f.0) (and_true (is_fine d v) (is_fine (suc d) b) (fine_passes d v f.1) (fine_passes (suc d) b f.2))
fine_passes d (proj S i s) f = fine_passes d s f
fine_passes d (lit n) f = is_below n (2 ^ 128) f
fine_passes d wide f = absurd f
fine_passes d (str s) f = refl
fine_passes d (local k T) f = and_true (is_fine 0 T) (nat_le (bound T) k) (fine_passes 0 T f.0) (is_most (bound T) k f.1)

pub fine_both : (a b : Tree) → IsWellFormed a × IsWellFormed b → are_fine a b ≡ true
fine_both a b f = and_true (is_fine 0 a) (is_fine 0 b) (fine_passes 0 a f.0) (fine_passes 0 b f.1)

-- lines after lines
claims_append : (w : Place) (ps : List Claim) (ls ms : List Line) (qs : List Claim) → claims_by w ps ls ≡ Some qs → claims_by w ps (ls ++ ms) ≡ claims_by w qs ms
claims_append w ps [] ms qs e = let i : ps ≡ qs = Some_inj e in rw i refl
claims_append w ps (l ∷ ls) ms qs e = go (line_holds w ps l) (claims_append w (ps ++ (claim_of l ∷ [])) ls ms qs) e
  where
    go : (b : Bool) → (claims_by w (ps ++ (claim_of l ∷ [])) ls ≡ Some qs → claims_by w (ps ++ (claim_of l ∷ [])) (ls ++ ms) ≡ claims_by w qs ms) →
        (if b then claims_by w (ps ++ (claim_of l ∷ [])) ls else None) ≡ Some qs → (if b then claims_by w (ps ++ (claim_of l ∷ [])) (ls ++ ms) else None) ≡ claims_by w qs ms
    go true f e = f e
    go false f e = absurd cc

-- what stands goes on standing
abbrev pub Stays : List Claim → List Claim → Type 0
Stays ps qs = (i : ℕ) (c : Claim) → Stands ps i c → Stands qs i c

pub stays : (ps qs : List Claim) → Keeps ps qs → Stays ps qs
stays ps qs k i (types e T) h = k i (types e T) h
stays ps qs k i (reduces a b) (inl e) = inl e
stays ps qs k i (reduces a b) (inr h) = inr (k i (reduces a b) h)
stays ps qs k i (equals a b) (inl e) = inl e
stays ps qs k i (equals a b) (inr h) = inr (k i (equals a b) h)

-- c, and then d
pub next : (w : Place) (ps : List Claim) (c d : Claim) → IsWritten w ps c → ((qs : List Claim) → Stays ps qs → (j : ℕ) → Stands qs j c → IsWritten w qs d) → IsWritten w ps d
next w ps c d h f =
    let g : IsWritten w h.claims d = f h.claims (stays ps h.claims h.keeps) h.place h.stands in
    record {
      lines = h.lines ++ g.lines;
      claims = g.claims;
      holds = claims_append w ps h.lines g.lines h.claims h.holds ∙ g.holds;
      keeps = λ i c e. g.keeps i c (h.keeps i c e);
      place = g.place;
      stands = g.stands;
    }

-- what is of one tree is written by no line
pub no_reduction : (w : Place) (ps : List Claim) (a b : Tree) → a ≡ b → IsWritten w ps (reduces a b)
no_reduction w ps a b e = record { lines = []; claims = ps; holds = refl; keeps = λ i c h. h; place = 0; stands = inl e }

pub no_equality : (w : Place) (ps : List Claim) (a b : Tree) → a ≡ b → IsWritten w ps (equals a b)
no_equality w ps a b e = record { lines = []; claims = ps; holds = refl; keeps = λ i c h. h; place = 0; stands = inl e }

kept_before : (ps qs : List Claim) (i : ℕ) (c : Claim) → slice_get ps i ≡ Some c → slice_get (ps ++ qs) i ≡ Some c
kept_before [] qs i c e = absurd cc
kept_before (p ∷ ps) qs zero c e = e
kept_before (p ∷ ps) qs (suc i) c e = kept_before ps qs i c e

last_there : (ps : List Claim) (c : Claim) → slice_get (ps ++ (c ∷ [])) (length ps) ≡ Some c
last_there [] c = refl
last_there (p ∷ ps) c = last_there ps c

pub stated_stands : (ps : List Claim) (j : ℕ) (c : Claim) → slice_get ps j ≡ Some c → Stands ps j c
stated_stands ps j (types e T) h = h
stated_stands ps j (reduces a b) h = inr h
stated_stands ps j (equals a b) h = inr h

-- one line
pub last : (w : Place) (ps : List Claim) (l : Line) → line_holds w ps l ≡ true → IsWritten w ps (claim_of l)
last w ps l h = record {
  lines = l ∷ [];
  claims = ps ++ (claim_of l ∷ []);
  holds = go (line_holds w ps l) h;
  keeps = λ i c e. kept_before ps (claim_of l ∷ []) i c e;
  place = length ps;
  stands = stated_stands (ps ++ (claim_of l ∷ [])) (length ps) (claim_of l) (last_there ps (claim_of l));
}
  where
    go : (b : Bool) → b ≡ true → (if b then Some (ps ++ (claim_of l ∷ [])) else None) ≡ Some (ps ++ (claim_of l ∷ []))
    go true e = refl
    go false e = absurd cc

pub last_type : (w : Place) (ps : List Claim) (r : TypingRule) (e T : Tree) (js : Left) → IsShaped (types e T) → passes (type_test w ps r e T js) ≡ true → IsWritten w ps (types e T)
last_type w ps r e T js h p = last w ps (ty r e T js) (and_true (are_fine e T) (passes (type_test w ps r e T js)) (fine_both e T h) p)

pub last_reduct : (w : Place) (ps : List Claim) (r : ReductionRule) (a b : Tree) (js : Left) → IsShaped (reduces a b) → passes (red_test w ps r a b js) ≡ true → IsWritten w ps (reduces a b)
last_reduct w ps r a b js h p = last w ps (rd r a b js) (and_true (are_fine a b) (passes (red_test w ps r a b js)) (fine_both a b (h.0, h.1)) p)

pub last_equal : (w : Place) (ps : List Claim) (r : EqualityRule) (a b : Tree) (js : Left) → IsShaped (equals a b) → passes (eq_test w ps r a b js) ≡ true → IsWritten w ps (equals a b)
last_equal w ps r a b js h p = last w ps (cv r a b js) (and_true (are_fine a b) (passes (eq_test w ps r a b js)) (fine_both a b h) p)

-- a test goes on by what it read
pub go_on : {A B : Type 0} (o : Option A) (v : A) (k : A → Option B) → o ≡ Some v → passes (k v) ≡ true → passes (o >>= k) ≡ true
go_on (Some u) v k e h = let i : u ≡ v = Some_inj e in rw i h
go_on None v k e h = absurd cc

pub go_test : {B : Type 0} (b : Bool) (k : Unit {0} → Option B) → b ≡ true → passes (k tt) ≡ true → passes (test b >>= k) ≡ true
go_test true k e h = h
go_test false k e h = absurd cc

pub comes_itself : (T : Tree) → passes (comes_to T T []) ≡ true
comes_itself T = pass_test (is_same_tree T T) (same_self T)

pub some_test : {B : Type 0} (b : Bool) (k : Unit {0} → Option B) (u : B) → b ≡ true → k tt ≡ Some u → (test b >>= k) ≡ Some u
some_test true k u e h = h
some_test false k u e h = absurd cc

pub typed_there : (ps : List Claim) (j : ℕ) (js : Left) (e T : Tree) → slice_get ps j ≡ Some (types e T) → typed ps (j ∷ js) e ≡ Some (T, js)
typed_there ps j js e T h = rw h (rw (same_self e) refl)

pub typing_there : (ps : List Claim) (j : ℕ) (js : Left) (e T : Tree) → slice_get ps j ≡ Some (types e T) → typing ps (j ∷ js) ≡ Some (record { left = e; right = T; after = js })
typing_there ps j js e T h = rw h refl

pub reduction_there : (ps : List Claim) (j : ℕ) (js : Left) (a b : Tree) → slice_get ps j ≡ Some (reduces a b) → reduction ps (j ∷ js) ≡ Some (record { left = a; right = b; after = js })
reduction_there ps j js a b h = rw h refl

-- premises that are named where their trees are two
abbrev pub with_reduct : Tree → Tree → ℕ → Left → Left
with_reduct a b j js = if is_same_tree a b then js else j ∷ js

abbrev pub with_equal : Tree → Tree → ℕ → Left → Left
with_equal a b j js = if is_same_tree a b then js else j ∷ js

pub differ : (a b : Tree) → is_same_tree a b ≡ false → a ≡ b → ⊥
differ a b f e = let t : is_same_tree a b ≡ true = subst (λ z. is_same_tree a z ≡ true) e (same_self a) in absurd cc

-- no reduction of e is next
abbrev pub NoReduct : List Claim → Left → Tree → Type 0
NoReduct ps js e = next_reduct ps js e ≡ None

pub typed_next : (ps : List Claim) (i : ℕ) (js : Left) (e x T : Tree) → slice_get ps i ≡ Some (types x T) → NoReduct ps (i ∷ js) e
typed_next ps i js e x T h = rw h refl

pub equal_next : (ps : List Claim) (i : ℕ) (js : Left) (e a b : Tree) → Stands ps i (equals a b) → NoReduct ps js e → NoReduct ps (with_equal a b i js) e
equal_next ps i js e a b h n = go (is_same_tree a b) refl h
  where
    there : slice_get ps i ≡ Some (equals a b) → NoReduct ps (i ∷ js) e
    there h = rw h refl

    go : (x : Bool) → is_same_tree a b ≡ x → Stands ps i (equals a b) → NoReduct ps (if x then js else i ∷ js) e
    go true t h = n
    go false t (inl s) = absurd (differ a b t s)
    go false t (inr s) = there s

-- a reduction of another tree
pub reduct_next : (ps : List Claim) (i : ℕ) (js : Left) (e a b : Tree) → (a ≡ e → a ≡ b) → Stands ps i (reduces a b) → NoReduct ps js e → NoReduct ps (with_reduct a b i js) e
reduct_next ps i js e a b other h n = go (is_same_tree a b) refl h
  where
    there : slice_get ps i ≡ Some (reduces a b) → is_same_tree a e ≡ false → NoReduct ps (i ∷ js) e
    there h f = rw h (rw f refl)

    apart : (x : Bool) → is_same_tree a e ≡ x → is_same_tree a b ≡ false → is_same_tree a e ≡ false
    apart true t f = absurd (differ a b f (other (same_tree a e t)))
    apart false t f = t

    go : (x : Bool) → is_same_tree a b ≡ x → Stands ps i (reduces a b) → NoReduct ps (if x then js else i ∷ js) e
    go true t h = n
    go false t (inl s) = absurd (differ a b t s)
    go false t (inr s) = there s (apart (is_same_tree a e) refl t)

read_or_stay : (o : Option (Tree × Left)) (d r : Tree × Left) → (o ≡ Some r) ⊎ ((o ≡ None) × (d ≡ r)) → elim o as (λ z. Option (Tree × Left)) [ Some r ↦ Some r | None ↦ Some d ] ≡ Some r
read_or_stay (Some x) d r (inl e) = e
read_or_stay None d r (inl e) = absurd cc
read_or_stay (Some x) d r (inr h) = let n : Some x ≡ None = h.0 in absurd cc
read_or_stay None d r (inr h) = ap (λ x. Some x) h.1

pub reduced_there : (ps : List Claim) (j : ℕ) (js : Left) (a b : Tree) → Stands ps j (reduces a b) → (a ≡ b → NoReduct ps js a) → reduced ps (with_reduct a b j js) a ≡ Some (b, js)
reduced_there ps j js a b h n = go (is_same_tree a b) refl h
  where
    there : slice_get ps j ≡ Some (reduces a b) → next_reduct ps (j ∷ js) a ≡ Some (b, js)
    there h = rw h (rw (same_self a) refl)

    go : (x : Bool) → is_same_tree a b ≡ x → Stands ps j (reduces a b) → reduced ps (if x then js else j ∷ js) a ≡ Some (b, js)
    go true t h = let e : a ≡ b = same_tree a b t in read_or_stay (next_reduct ps js a) (a, js) (b, js) (inr (n e, ap (λ z. (z, js)) e))
    go false t (inl s) = absurd (differ a b t s)
    go false t (inr s) = read_or_stay (next_reduct ps (j ∷ js) a) (a, j ∷ js) (b, js) (inl (there s))

pub equal_there : (ps : List Claim) (j : ℕ) (js : Left) (a b : Tree) → Stands ps j (equals a b) → equal ps (with_equal a b j js) a b ≡ Some js
equal_there ps j js a b h = go (is_same_tree a b) refl h
  where
    there : slice_get ps j ≡ Some (equals a b) → next_equal ps (j ∷ js) a b ≡ Some js
    there h = rw h (rw (same_self a, same_self b) refl)

    go : (x : Bool) → is_same_tree a b ≡ x → Stands ps j (equals a b) → (if x then Some (if x then js else j ∷ js) else next_equal ps (if x then js else j ∷ js) a b) ≡ Some js
    go true t h = refl
    go false t (inl s) = absurd (differ a b t s)
    go false t (inr s) = there s

pub to_pi_there : (ps : List Claim) (j : ℕ) (js : Left) (F A B : Tree) → Stands ps j (reduces F (pi A B)) → (F ≡ pi A B → NoReduct ps js F) →
    to_pi ps (with_reduct F (pi A B) j js) F ≡ Some ((A, B), js)
to_pi_there ps j js F A B h n = some_on (reduced ps (with_reduct F (pi A B) j js) F) (pi A B, js) _ ((A, B), js) (reduced_there ps j js F (pi A B) h n) refl

pub sorted_there : (ps : List Claim) (i j : ℕ) (js : Left) (A S : Tree) (l : Level) → slice_get ps i ≡ Some (types A S) → Stands ps j (reduces S (sort l)) → (S ≡ sort l → NoReduct ps js S) →
    sorted ps (i ∷ with_reduct S (sort l) j js) A ≡ Some (l, js)
sorted_there ps i j js A S l h k n =
    some_on (typed ps (i ∷ with_reduct S (sort l) j js) A) (S, with_reduct S (sort l) j js) _ (l, js) (typed_there ps i (with_reduct S (sort l) j js) A S h)
    (some_on (reduced ps (with_reduct S (sort l) j js) S) (sort l, js) _ (l, js) (reduced_there ps j js S (sort l) k n) refl)

-- a test goes on by what stands
pub go_typed : {B : Type 0} (ps : List Claim) (j : ℕ) (js : Left) (e T : Tree) (k : Tree × Left → Option B) → slice_get ps j ≡ Some (types e T) → passes (k (T, js)) ≡ true → passes (typed ps (j ∷ js) e >>= k) ≡ true
go_typed ps j js e T k h p = go_on (typed ps (j ∷ js) e) (T, js) k (typed_there ps j js e T h) p

pub go_reduced : {B : Type 0} (ps : List Claim) (j : ℕ) (js : Left) (a b : Tree) (k : Tree × Left → Option B) → Stands ps j (reduces a b) → (a ≡ b → NoReduct ps js a) → passes (k (b, js)) ≡ true →
    passes (reduced ps (with_reduct a b j js) a >>= k) ≡ true
go_reduced ps j js a b k h n p = go_on (reduced ps (with_reduct a b j js) a) (b, js) k (reduced_there ps j js a b h n) p

pub go_equal : {B : Type 0} (ps : List Claim) (j : ℕ) (js : Left) (a b : Tree) (k : Left → Option B) → Stands ps j (equals a b) → passes (k js) ≡ true → passes (equal ps (with_equal a b j js) a b >>= k) ≡ true
go_equal ps j js a b k h p = go_on (equal ps (with_equal a b j js) a b) js k (equal_there ps j js a b h) p

pub go_pi : {B : Type 0} (ps : List Claim) (j : ℕ) (js : Left) (F C D : Tree) (k : (Tree × Tree) × Left → Option B) → Stands ps j (reduces F (pi C D)) → (F ≡ pi C D → NoReduct ps js F) → passes (k ((C, D), js)) ≡ true →
    passes (to_pi ps (with_reduct F (pi C D) j js) F >>= k) ≡ true
go_pi ps j js F C D k h n p = go_on (to_pi ps (with_reduct F (pi C D) j js) F) ((C, D), js) k (to_pi_there ps j js F C D h n) p

pub go_sorted : {B : Type 0} (ps : List Claim) (i j : ℕ) (js : Left) (A S : Tree) (l : Level) (k : Level × Left → Option B) → slice_get ps i ≡ Some (types A S) → Stands ps j (reduces S (sort l)) → (S ≡ sort l → NoReduct ps js S) →
    passes (k (l, js)) ≡ true → passes (sorted ps (i ∷ with_reduct S (sort l) j js) A >>= k) ≡ true
go_sorted ps i j js A S l k h g n p = go_on (sorted ps (i ∷ with_reduct S (sort l) j js) A) (l, js) k (sorted_there ps i j js A S l h g n) p

fresh_passes : (k : ℕ) (es : List Tree) → Fresh k es → is_fresh k es ≡ true
fresh_passes k [] h = refl
fresh_passes k (e ∷ es) h = and_true (nat_le (bound e) k) (is_fresh k es) (is_most (bound e) k h.0) (fresh_passes k es h.1)

pub fresh_there : (k : ℕ) (A : Tree) (es : List Tree) → Fresh k es → fresh_local A es (local k A) ≡ Some k
fresh_there k A es h = some_test (is_same_tree A A && is_fresh k es) _ k (and_true (is_same_tree A A) (is_fresh k es) (same_self A) (fresh_passes k es h)) refl

-- lines that hold after ps, and then P
pub record Finishes (w : Place) (ps : List Claim) (P : List Claim → Type 0) : Type 0 where
  pub lines : List Line
  pub claims : List Claim
  pub holds : claims_by w ps lines ≡ Some claims
  pub has : P claims

pub finish : (w : Place) (ps : List Claim) (P : List Claim → Type 0) → P ps → Finishes w ps P
finish w ps P h = record { lines = []; claims = ps; holds = refl; has = h }

pub go_first : (w : Place) (ps : List Claim) (c : Claim) (P : List Claim → Type 0) → IsWritten w ps c → ((qs : List Claim) → Stays ps qs → (j : ℕ) → Stands qs j c → Finishes w qs P) → Finishes w ps P
go_first w ps c P h f =
    let g : Finishes w h.claims P = f h.claims (stays ps h.claims h.keeps) h.place h.stands in
    record { lines = h.lines ++ g.lines; claims = g.claims; holds = claims_append w ps h.lines g.lines h.claims h.holds ∙ g.holds; has = g.has }
