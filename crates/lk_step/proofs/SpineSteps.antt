-- The test of two spines finds a cut, and reads what is named right: where the two functions of an
-- outer cut are one tree, so is each two that stand in them, and what says so has no number; else no
-- premise states them, since they are larger than what the first that is named speaks of.
use Rattle.std.proofs.Common.{ℕ, suc, ◌≡◌, ◌<◌, ◌≤◌, ◌+◌, inl, inr, Bool, true, false, ◌&&◌, length, List, [], ◌∷◌, Option, Some, None, refl, subst, sym, ap, ◌∙◌, arith, if◌then◌else◌}
use Rattle.std.specs.Prelude.{slice_get}
use Rattle.lk_tree.specs.Tree.{Tree, app}
use Rattle.lk_tree.specs.Spine.{apply, IsNeutral}
use Rattle.lk_rulebook.specs.Claims.{Claim, equals}
use Rattle.lk_questions.specs.Steps.{is_same_tree}
use Rattle.lk_questions.specs.Tests.{◌>>=◌, test}
use Rattle.lk_claims.proofs.Pieces.{Some_inj, same_tree}
use Rattle.lk_claims.proofs.Facts.{same_self, some_on}
use Rattle.lk_written.specs.Premises.{Left, next_equal, equal}
use Rattle.lk_written.specs.Equal.{pairs_equal, spines_equal}
use Rattle.lk_written.specs.Written.{Stands}
use Rattle.lk_written_sound.proofs.Writings.{differ}
use Rattle.lk_step.specs.Equal.{argument_claims, spine_claims}
use Rattle.lk_step.specs.Steps.{AreNamed}
use Rattle.lk_step.proofs.Naming.{Named, Leaves, equal_leaves}

-- two functions applied to pairs of arguments, the last pair first
abbrev lefts : Tree → List (Tree × Tree) → Tree
lefts f [] = f
lefts f (p ∷ before) = app (lefts f before) p.0

abbrev rights : Tree → List (Tree × Tree) → Tree
rights g [] = g
rights g (p ∷ before) = app (rights g before) p.1

-- those before, of which the last stands first, and then more
abbrev onto : List (Tree × Tree) → List (Tree × Tree) → List (Tree × Tree)
onto [] more = more
onto (p ∷ before) more = onto before (p ∷ more)

-- each pair is equal
abbrev pair_claims : List (Tree × Tree) → List Claim
pair_claims [] = []
pair_claims (p ∷ more) = equals p.0 p.1 ∷ pair_claims more

function_is : (f g a b : Tree) → app f a ≡ app g b → f ≡ g
function_is f g a b e = cc

argument_is : (f g a b : Tree) → app f a ≡ app g b → a ≡ b
argument_is f g a b e = cc

both_are : (f g a b : Tree) → f ≡ g → a ≡ b → app f a ≡ app g b
both_are f g a b e i = cc

pairs_named : (ps : List Claim) (more : List (Tree × Tree)) (js : Left) → Named ps (pair_claims more) js → pairs_equal ps js more ≡ Some []
pairs_named ps [] js h = let e : js ≡ [] = h.are in ap (λ z. Some z) e
pairs_named ps (p ∷ more) js h =
    let read : Leaves ps (pair_claims more) (equal ps js p.0 p.1) = equal_leaves h in
    some_on (equal ps js p.0 p.1) read.more _ [] read.given (pairs_named ps more read.more read.named)

-- a premise of one tree has no number
left_out : (ps : List Claim) (a b : Tree) (cs : List Claim) (js : Left) → a ≡ b → AreNamed ps (equals a b ∷ cs) js → AreNamed ps cs js
left_out ps a b cs js e n = subst (λ z. AreNamed ps cs z) (sym (n.2 ∙ out (is_same_tree a b) (subst (λ z. is_same_tree a z ≡ true) e (same_self a)))) n.4
  where
    out : (x : Bool) → x ≡ true → (if x then n.1 else n.0 ∷ n.1) ≡ n.1
    out true h = refl
    out false h = absurd cc

-- where two functions are one tree, only what comes behind them is named
behind_one : (ps : List Claim) (f g : Tree) (before more : List (Tree × Tree)) (js : Left) → lefts f before ≡ rights g before → AreNamed ps (equals f g ∷ pair_claims (onto before more)) js → AreNamed ps (pair_claims more) js
behind_one ps f g [] more js e n = left_out ps f g (pair_claims more) js e n
behind_one ps f g (p ∷ before) more js e n =
    left_out ps p.0 p.1 (pair_claims more) js (argument_is (lefts f before) (rights g before) p.0 p.1 e)
    (behind_one ps f g before (p ∷ more) js (function_is (lefts f before) (rights g before) p.0 p.1 e) n)

-- of the first two that are not one tree it is not said that A is B
abbrev NotFirst : Tree → Tree → List (Tree × Tree) → Type 0
NotFirst A B [] = Unit {0}
NotFirst A B (p ∷ more) = (p.0 ≡ A → p.1 ≡ B → p.0 ≡ p.1) × (p.0 ≡ p.1 → NotFirst A B more)

other_next : (ps : List Claim) (j : ℕ) (js : Left) (a b A B : Tree) → slice_get ps j ≡ Some (equals a b) → (a ≡ A → b ≡ B → ⊥) → next_equal ps (j ∷ js) A B ≡ None
other_next ps j js a b A B s f = rw s (refused (is_same_tree a A) (is_same_tree b B) (λ x y. f (same_tree a A x) (same_tree b B y)))
  where
    refused : (x y : Bool) → (x ≡ true → y ≡ true → ⊥) → (test (x && y) >>= λ u. Some js) ≡ None
    refused true true h = absurd (h refl refl)
    refused true false h = refl
    refused false y h = refl

not_next : (ps : List Claim) (A B : Tree) (all : List (Tree × Tree)) (js : Left) → AreNamed ps (pair_claims all) js → NotFirst A B all → next_equal ps js A B ≡ None
not_next ps A B [] js n h = subst (λ z. next_equal ps z A B ≡ None) (sym n) refl
not_next ps A B (p ∷ more) js n h =
    subst (λ z. next_equal ps z A B ≡ None) (sym n.2) (go (is_same_tree p.0 p.1) refl n.3 (λ s. not_next ps A B more n.1 n.4 (h.1 s)))
  where
    go : (x : Bool) → is_same_tree p.0 p.1 ≡ x → Stands ps n.0 (equals p.0 p.1) → (p.0 ≡ p.1 → next_equal ps n.1 A B ≡ None) → next_equal ps (if x then n.1 else n.0 ∷ n.1) A B ≡ None
    go true t s rest = rest (same_tree p.0 p.1 t)
    go false t (inl e) rest = absurd (differ p.0 p.1 t e)
    go false t (inr e) rest = other_next ps n.0 n.1 p.0 p.1 A B e (λ x y. differ p.0 p.1 t (h.0 x y))

-- how many applications stand in a spine and in its arguments
abbrev size : Tree → ℕ
size (app f a) = suc (size f + size a)
size _ = 0

size_apart : (a b : Tree) → size a < size b → a ≡ b → ⊥
size_apart a b h e = let i : size a ≡ size b = ap (λ z. size z) e in omega arith

-- each left argument is smaller than n
abbrev AllBelow : ℕ → List (Tree × Tree) → Type 0
AllBelow n [] = Unit {0}
AllBelow n (p ∷ before) = (size p.0 < n) × AllBelow n before

arguments_below : (f : Tree) (before : List (Tree × Tree)) (n : ℕ) → size (lefts f before) ≤ n → AllBelow n before
arguments_below f [] n h = tt
arguments_below f (p ∷ before) n h =
    let larger : suc (size (lefts f before) + size p.0) ≤ n = h in
    (omega arith, arguments_below f before n (omega arith))

function_within : (f : Tree) (before : List (Tree × Tree)) → size f ≤ size (lefts f before)
function_within f [] = omega arith
function_within f (p ∷ before) =
    let h : size f ≤ size (lefts f before) = function_within f before in
    let larger : size f ≤ suc (size (lefts f before) + size p.0) = omega arith in
    larger

itself : (n : ℕ) → n ≤ n
itself n = omega arith

-- no argument before is as large as A, so that where none differs it is up to what comes behind
not_before : (A B f g : Tree) (before more : List (Tree × Tree)) → AllBelow (size A) before → f ≡ g → (lefts f before ≡ rights g before → NotFirst A B more) → NotFirst A B (onto before more)
not_before A B f g [] more s e k = k e
not_before A B f g (p ∷ before) more s e k =
    not_before A B f g before (p ∷ more) s.1 e (λ same.
    ((λ x y. absurd (size_apart p.0 A s.0 x)), (λ one. k (both_are (lefts f before) (rights g before) p.0 p.1 same one))))

-- the cut is here, or further in
cut_here : (ps : List Claim) (o : Option Left) (r : Left) (all : List (Tree × Tree)) (inner : Option Left) → o ≡ Some r → pairs_equal ps r all ≡ Some [] →
    elim o as (λ z. Option Left) [ Some r ↦ pairs_equal ps r all | None ↦ inner ] ≡ Some []
cut_here ps (Some s) r all inner e h = let i : s ≡ r = Some_inj e in subst (λ z. pairs_equal ps z all ≡ Some []) (sym i) h
cut_here ps None r all inner e h = absurd cc

cut_inside : (ps : List Claim) (o : Option Left) (all : List (Tree × Tree)) (inner : Option Left) → o ≡ None → inner ≡ Some [] →
    elim o as (λ z. Option Left) [ Some r ↦ pairs_equal ps r all | None ↦ inner ] ≡ Some []
cut_inside ps (Some s) all inner e h = absurd cc
cut_inside ps None all inner e h = h

cut_by : (ps : List Claim) (F G : Tree) (js : Left) (p : Tree × Tree) (more : List (Tree × Tree)) → (F ≡ G → AreNamed ps (pair_claims (p ∷ more)) js) → ((F ≡ G → ⊥) → next_equal ps js F G ≡ None) →
    spines_equal ps js F G (p ∷ more) ≡ Some [] → spines_equal ps js (app F p.0) (app G p.1) more ≡ Some []
cut_by ps F G js p more one two inside = go (is_same_tree F G) refl
  where
    go : (x : Bool) → is_same_tree F G ≡ x →
        elim (if x then Some js else next_equal ps js F G) as (λ z. Option Left) [ Some r ↦ pairs_equal ps r (p ∷ more) | None ↦ spines_equal ps js F G (p ∷ more) ] ≡ Some []
    go true t = pairs_named ps (p ∷ more) js (record { are = one (same_tree F G t) })
    go false t = cut_inside ps (next_equal ps js F G) (p ∷ more) (spines_equal ps js F G (p ∷ more)) (two (differ F G t)) inside

spines_named : (ps : List Claim) (f g : Tree) (before : List (Tree × Tree)) (p : Tree × Tree) (more : List (Tree × Tree)) (js : Left) → AreNamed ps (equals f g ∷ pair_claims (onto before (p ∷ more))) js →
    spines_equal ps js (lefts f (p ∷ before)) (rights g (p ∷ before)) more ≡ Some []
spines_named ps f g [] p more js n =
    let named : Named ps (equals f g ∷ pair_claims (p ∷ more)) js = record { are = n } in
    let read : Leaves ps (pair_claims (p ∷ more)) (equal ps js f g) = equal_leaves named in
    cut_here ps (equal ps js f g) read.more (p ∷ more) (spines_equal ps js f g (p ∷ more)) read.given (pairs_named ps (p ∷ more) read.more read.named)
spines_named ps f g (q ∷ before) p more js n =
    let F : Tree = lefts f (q ∷ before) in
    let G : Tree = rights g (q ∷ before) in
    let h : size f ≤ size (lefts f before) = function_within f before in
    let below : size f < suc (size (lefts f before) + size q.0) = omega arith in
    cut_by ps F G js p more (λ e. behind_one ps f g (q ∷ before) (p ∷ more) js e n)
    (λ two. not_next ps F G ((f, g) ∷ onto (q ∷ before) (p ∷ more)) js n
    ((λ x y. absurd (size_apart f F below x)), (λ one. not_before F G f g (q ∷ before) (p ∷ more) (arguments_below f (q ∷ before) (size F) (itself (size F))) one (λ e. absurd (two e)))))
    (spines_named ps f g before q (p ∷ more) js n)

spines_read : (ps : List Claim) (f g : Tree) (all : List (Tree × Tree)) (js : Left) → 0 < length all → AreNamed ps (equals f g ∷ pair_claims (onto all [])) js → spines_equal ps js (lefts f all) (rights g all) [] ≡ Some []
spines_read ps f g [] js h n = absurd (omega arith)
spines_read ps f g (p ∷ before) js h n = spines_named ps f g before p [] js n

-- the pairs, and those of them that a tree's spine ends in first
zipped : List Tree → List Tree → List (Tree × Tree)
zipped (x ∷ xs) (y ∷ ys) = (x, y) ∷ zipped xs ys
zipped (x ∷ xs) [] = []
zipped [] ys = []

turned : List Tree → List Tree → List (Tree × Tree) → List (Tree × Tree)
turned (x ∷ xs) (y ∷ ys) before = turned xs ys ((x, y) ∷ before)
turned (x ∷ xs) [] before = before
turned [] ys before = before

turned_more : (xs ys : List Tree) (before : List (Tree × Tree)) → 0 < length before → 0 < length (turned xs ys before)
unfolding turned
turned_more (x ∷ xs) (y ∷ ys) before h = turned_more xs ys ((x, y) ∷ before) (omega arith)
turned_more (x ∷ xs) [] before h = h
turned_more [] ys before h = h

lefts_turned : (f : Tree) (xs ys : List Tree) (before : List (Tree × Tree)) → length xs ≡ length ys → lefts f (turned xs ys before) ≡ apply (lefts f before) xs
unfolding turned
lefts_turned f (x ∷ xs) (y ∷ ys) before e = lefts_turned f xs ys ((x, y) ∷ before) (omega arith)
lefts_turned f (x ∷ xs) [] before e = absurd (omega arith)
lefts_turned f [] ys before e = refl

rights_turned : (g : Tree) (xs ys : List Tree) (before : List (Tree × Tree)) → length xs ≡ length ys → rights g (turned xs ys before) ≡ apply (rights g before) ys
unfolding turned
rights_turned g (x ∷ xs) (y ∷ ys) before e = rights_turned g xs ys ((x, y) ∷ before) (omega arith)
rights_turned g (x ∷ xs) [] before e = absurd (omega arith)
rights_turned g [] (y ∷ ys) before e = absurd (omega arith)
rights_turned g [] [] before e = refl

pairs_turned : (xs ys : List Tree) (before : List (Tree × Tree)) → onto (turned xs ys before) [] ≡ onto before (zipped xs ys)
unfolding turned zipped
pairs_turned (x ∷ xs) (y ∷ ys) before = pairs_turned xs ys ((x, y) ∷ before)
pairs_turned (x ∷ xs) [] before = refl
pairs_turned [] ys before = refl

zipped_claims : (xs ys : List Tree) → pair_claims (zipped xs ys) ≡ argument_claims xs ys
unfolding zipped
zipped_claims (x ∷ xs) (y ∷ ys) = ap (λ cs. equals x y ∷ cs) (zipped_claims xs ys)
zipped_claims (x ∷ xs) [] = refl
zipped_claims [] ys = refl

-- at least one pair
turned_some : (xs ys : List Tree) → 0 < length xs → length xs ≡ length ys → 0 < length (turned xs ys [])
unfolding turned
turned_some (x ∷ xs) (y ∷ ys) h e = turned_more xs ys ((x, y) ∷ []) (omega arith)
turned_some (x ∷ xs) [] h e = absurd (omega arith)
turned_some [] ys h e = absurd (omega arith)

pub spine_there : (ps : List Claim) (f g : Tree) (xs ys : List Tree) (js : Left) → 0 < length xs → length xs ≡ length ys → AreNamed ps (spine_claims f g xs ys) js → spines_equal ps js (apply f xs) (apply g ys) [] ≡ Some []
spine_there ps f g xs ys js h e n =
    let all : List (Tree × Tree) = turned xs ys [] in
    let claims : argument_claims xs ys ≡ pair_claims (onto all []) = sym (ap (λ z. pair_claims z) (pairs_turned xs ys []) ∙ zipped_claims xs ys) in
    let named : AreNamed ps (equals f g ∷ pair_claims (onto all [])) js = subst (λ z. AreNamed ps (equals f g ∷ z) js) claims n in
    let read : spines_equal ps js (lefts f all) (rights g all) [] ≡ Some [] = spines_read ps f g all js (turned_some xs ys h e) named in
    subst (λ z. spines_equal ps js z (apply g ys) [] ≡ Some []) (lefts_turned f xs ys [] e)
    (subst (λ z. spines_equal ps js (lefts f all) z [] ≡ Some []) (rights_turned g xs ys [] e) read)

pub neutral_apply : (f : Tree) (xs : List Tree) → IsNeutral f → IsNeutral (apply f xs)
neutral_apply f [] h = h
neutral_apply f (x ∷ xs) h = neutral_apply (app f x) xs h
