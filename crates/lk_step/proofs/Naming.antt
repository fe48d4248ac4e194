-- What is read where the premises that are left name claims.
use Rattle.std.proofs.Common.{ℕ, ◌≡◌, ◌≢◌, inl, inr, Bool, true, false, List, [], ◌∷◌, Option, Some, refl, subst, sym, if◌then◌else◌}
use Rattle.lk_tree.specs.Tree.{Level, Tree, sort, pi}
use Rattle.lk_tree.specs.WellFormed.{IsWellFormed}
use Rattle.lk_tree.proofs.Scans.{and_true}
use Rattle.lk_rulebook.specs.Place.{Place}
use Rattle.lk_rulebook.specs.Formers.{IsFormer}
use Rattle.lk_rulebook.specs.Claims.{Claim, types, reduces, equals}
use Rattle.lk_questions.specs.Steps.{is_same_tree}
use Rattle.lk_questions.specs.Tests.{◌>>=◌, passes}
use Rattle.lk_claims.proofs.Facts.{some_on}
use Rattle.lk_claims.proofs.Pieces.{same_tree}
use Rattle.lk_written.specs.Line.{TypingRule, ReductionRule, EqualityRule}
use Rattle.lk_written.specs.Premises.{Left, Stated, ends, typing, reduction, typed, reduced, equal, to_pi, sorted}
use Rattle.lk_written.specs.Typing.{comes_to, type_test}
use Rattle.lk_written.specs.Reducing.{red_test}
use Rattle.lk_written.specs.Equal.{eq_test}
use Rattle.lk_written.specs.Section.{are_fine}
use Rattle.lk_written.specs.Written.{Stands}
use Rattle.lk_written_sound.proofs.Writings.{fine_both, go_on, comes_itself, NoReduct, typed_next, equal_next, reduct_next, typed_there, typing_there, reduction_there, reduced_there, equal_there, to_pi_there}
use Rattle.lk_step.specs.Steps as steps
use Rattle.lk_step.specs.Steps.{AreNamed, StepHolds}
use Rattle.lk_step.specs.Shaped.{AllShaped}

-- the premises that are left name the claims
pub record Named (ps cs : List Claim) (js : Left) : Type 0 where
  pub are : AreNamed ps cs js

-- what is named first of these is no reduction of e
abbrev pub NextIsOther : List Claim → Tree → Type 0
NextIsOther [] e = Unit {0}
NextIsOther (types x T ∷ cs) e = Unit {0}
NextIsOther (reduces a b ∷ cs) e = (a ≡ e → a ≡ b) × NextIsOther cs e
NextIsOther (equals a b ∷ cs) e = NextIsOther cs e

pub none_next : (ps cs : List Claim) (js : Left) (e : Tree) → AreNamed ps cs js → NextIsOther cs e → NoReduct ps js e
none_next ps [] js e h n = subst (λ z. NoReduct ps z e) (sym h) refl
none_next ps (types x T ∷ cs) js e h n = subst (λ z. NoReduct ps z e) (sym h.2) (typed_next ps h.0 h.1 e x T h.3)
none_next ps (reduces a b ∷ cs) js e h n = subst (λ z. NoReduct ps z e) (sym h.2) (reduct_next ps h.0 h.1 e a b n.0 h.3 (none_next ps cs h.1 e h.4 n.1))
none_next ps (equals a b ∷ cs) js e h n = subst (λ z. NoReduct ps z e) (sym h.2) (equal_next ps h.0 h.1 e a b h.3 (none_next ps cs h.1 e h.4 n))

-- a Sort or a Pi reduces to itself alone, and that is not named
pub shaped_other : (cs : List Claim) (S : Tree) → AllShaped cs → IsFormer S → NextIsOther cs S
shaped_other [] S h f = tt
shaped_other (types x T ∷ cs) S h f = tt
shaped_other (reduces a b ∷ cs) S h f = ((λ e. h.0.2 (subst IsFormer (sym e) f)), shaped_other cs S h.1 f)
shaped_other (equals a b ∷ cs) S h f = shaped_other cs S h.1 f

pub sort_other : (cs : List Claim) (S : Tree) (l : Level) → AllShaped cs → S ≡ sort l → NextIsOther cs S
sort_other cs S l h e = shaped_other cs S h (subst IsFormer (sym e) tt)

pub pi_other : (cs : List Claim) (F A B : Tree) → AllShaped cs → F ≡ pi A B → NextIsOther cs F
pi_other cs F A B h e = shaped_other cs F h (subst IsFormer (sym e) tt)

-- a test gives v, and what it leaves names these claims
pub record Gives {A : Type 0} (ps cs : List Claim) (o : Option (A × Left)) (v : A) : Type 0 where
  pub more : Left
  pub given : o ≡ Some (v, more)
  pub named : Named ps cs more

-- a test that gives nothing passes, and what it leaves names these claims
pub record Leaves (ps cs : List Claim) (o : Option Left) : Type 0 where
  pub more : Left
  pub given : o ≡ Some more
  pub named : Named ps cs more

-- a premise states a relation of a and b, and those after it name these claims
pub record States (ps cs : List Claim) (o : Option Stated) (a b : Tree) : Type 0 where
  pub more : Left
  pub given : o ≡ Some (record { left = a; right = b; after = more })
  pub named : Named ps cs more

pub typed_gives : {ps cs : List Claim} {js : Left} {e T : Tree} → Named ps (types e T ∷ cs) js → Gives ps cs (typed ps js e) T
typed_gives {ps} {cs} {js} {e} {T} h =
    let n : AreNamed ps (types e T ∷ cs) js = h.are in
    record { more = n.1; given = subst (λ z. typed ps z e ≡ Some (T, n.1)) (sym n.2) (typed_there ps n.0 n.1 e T n.3); named = record { are = n.4 } }

pub reduced_gives : {ps cs : List Claim} {js : Left} {a b : Tree} → Named ps (reduces a b ∷ cs) js → (a ≡ b → NextIsOther cs a) → Gives ps cs (reduced ps js a) b
reduced_gives {ps} {cs} {js} {a} {b} h other =
    let n : AreNamed ps (reduces a b ∷ cs) js = h.are in
    record {
      more = n.1;
      given = subst (λ z. reduced ps z a ≡ Some (b, n.1)) (sym n.2) (reduced_there ps n.0 n.1 a b n.3 (λ e. none_next ps cs n.1 a n.4 (other e)));
      named = record { are = n.4 };
    }

pub to_pi_gives : {ps cs : List Claim} {js : Left} {F A B : Tree} → Named ps (reduces F (pi A B) ∷ cs) js → (F ≡ pi A B → NextIsOther cs F) → Gives ps cs (to_pi ps js F) (A, B)
to_pi_gives {ps} {cs} {js} {F} {A} {B} h other =
    let n : AreNamed ps (reduces F (pi A B) ∷ cs) js = h.are in
    record {
      more = n.1;
      given = subst (λ z. to_pi ps z F ≡ Some ((A, B), n.1)) (sym n.2) (to_pi_there ps n.0 n.1 F A B n.3 (λ e. none_next ps cs n.1 F n.4 (other e)));
      named = record { are = n.4 };
    }

pub equal_leaves : {ps cs : List Claim} {js : Left} {a b : Tree} → Named ps (equals a b ∷ cs) js → Leaves ps cs (equal ps js a b)
equal_leaves {ps} {cs} {js} {a} {b} h =
    let n : AreNamed ps (equals a b ∷ cs) js = h.are in
    record { more = n.1; given = subst (λ z. equal ps z a b ≡ Some n.1) (sym n.2) (equal_there ps n.0 n.1 a b n.3); named = record { are = n.4 } }

pub typing_states : {ps cs : List Claim} {js : Left} {e T : Tree} → Named ps (types e T ∷ cs) js → States ps cs (typing ps js) e T
typing_states {ps} {cs} {js} {e} {T} h =
    let n : AreNamed ps (types e T ∷ cs) js = h.are in
    record {
      more = n.1;
      given = subst (λ z. typing ps z ≡ Some (record { left = e; right = T; after = n.1 })) (sym n.2) (typing_there ps n.0 n.1 e T n.3);
      named = record { are = n.4 };
    }

-- a reduction between two trees is always named
pub reduction_states : {ps cs : List Claim} {js : Left} {a b : Tree} → a ≢ b → Named ps (reduces a b ∷ cs) js → States ps cs (reduction ps js) a b
reduction_states {ps} {cs} {js} {a} {b} two h =
    let n : AreNamed ps (reduces a b ∷ cs) js = h.are in
    go (is_same_tree a b) refl n.0 n.1 n.2 n.3 n.4
  where
    go : (x : Bool) → is_same_tree a b ≡ x → (i : ℕ) (more : Left) → js ≡ (if x then more else i ∷ more) → Stands ps i (reduces a b) → AreNamed ps cs more → States ps cs (reduction ps js) a b
    go true t i more e s m = absurd (two (same_tree a b t))
    go false t i more e (inl s) m = absurd (two s)
    go false t i more e (inr s) m =
        record {
          more = more;
          given = subst (λ z. reduction ps z ≡ Some (record { left = a; right = b; after = more })) (sym e) (reduction_there ps i more a b s);
          named = record { are = m };
        }

-- a test goes on by what it reads
pub gives_on : {A B : Type 0} {ps cs ds : List Claim} (o : Option (A × Left)) (v : A) (k : A × Left → Option (B × Left)) (u : B) →
    Gives ps cs o v → ((js : Left) → Named ps cs js → Gives ps ds (k (v, js)) u) → Gives ps ds (o >>= k) u
gives_on o v k u g f =
    let r = f g.more g.named in
    record { more = r.more; given = some_on o (v, g.more) k (u, r.more) g.given r.given; named = r.named }

pub leaves_on : {B : Type 0} {ps cs ds : List Claim} (o : Option Left) (k : Left → Option (B × Left)) (u : B) → Leaves ps cs o → ((js : Left) → Named ps cs js → Gives ps ds (k js) u) → Gives ps ds (o >>= k) u
leaves_on o k u g f =
    let r = f g.more g.named in
    record { more = r.more; given = some_on o g.more k (u, r.more) g.given r.given; named = r.named }

pub sorted_gives : {ps cs : List Claim} {js : Left} {A S : Tree} {l : Level} → Named ps (types A S ∷ reduces S (sort l) ∷ cs) js → (S ≡ sort l → NextIsOther cs S) → Gives ps cs (sorted ps js A) l
sorted_gives {ps} {cs} {js} {A} {S} {l} h other =
    gives_on (typed ps js A) S _ l (typed_gives h) (λ j₁ h₁.
    gives_on (reduced ps j₁ S) (sort l) _ l (reduced_gives h₁ other) (λ j₂ h₂.
    record { more = j₂; given = refl; named = h₂ }))

pub go_gives : {A B : Type 0} {ps cs : List Claim} (o : Option (A × Left)) (v : A) (k : A × Left → Option B) → Gives ps cs o v → ((js : Left) → Named ps cs js → passes (k (v, js)) ≡ true) → passes (o >>= k) ≡ true
go_gives o v k g f = go_on o (v, g.more) k g.given (f g.more g.named)

pub go_leaves : {B : Type 0} {ps cs : List Claim} (o : Option Left) (k : Left → Option B) → Leaves ps cs o → ((js : Left) → Named ps cs js → passes (k js) ≡ true) → passes (o >>= k) ≡ true
go_leaves o k g f = go_on o g.more k g.given (f g.more g.named)

pub go_states : {B : Type 0} {ps cs : List Claim} (o : Option Stated) (a b : Tree) (k : Stated → Option B) → States ps cs o a b →
    ((js : Left) → Named ps cs js → passes (k (record { left = a; right = b; after = js })) ≡ true) → passes (o >>= k) ≡ true
go_states o a b k g f = go_on o (record { left = a; right = b; after = g.more }) k g.given (f g.more g.named)

-- nothing is left
pub comes_named : {ps : List Claim} {js : Left} (T : Tree) → Named ps [] js → passes (comes_to T T js) ≡ true
comes_named {js = js} T h =
    let e : js ≡ [] = h.are in
    subst (λ z. passes (comes_to T T z) ≡ true) (sym e) (comes_itself T)

pub ends_named : {ps : List Claim} {js : Left} → Named ps [] js → passes (ends js) ≡ true
ends_named {js = js} h =
    let e : js ≡ [] = h.are in
    subst (λ z. passes (ends z) ≡ true) (sym e) refl

-- a step holds where its line's test passes
pub step_types : (w : Place) (r : TypingRule) (e T : Tree) (cs : List Claim) → IsWellFormed e → IsWellFormed T → ((ps : List Claim) (js : Left) → Named ps cs js → passes (type_test w ps r e T js) ≡ true) →
    StepHolds w (steps.typing r e T cs)
step_types w r e T cs fe fT p = λ ps js h. and_true (are_fine e T) (passes (type_test w ps r e T js)) (fine_both e T (fe, fT)) (p ps js (record { are = h }))

pub step_reduces : (w : Place) (r : ReductionRule) (a b : Tree) (cs : List Claim) → IsWellFormed a → IsWellFormed b → ((ps : List Claim) (js : Left) → Named ps cs js → passes (red_test w ps r a b js) ≡ true) →
    StepHolds w (steps.reduction r a b cs)
step_reduces w r a b cs fa fb p = λ ps js h. and_true (are_fine a b) (passes (red_test w ps r a b js)) (fine_both a b (fa, fb)) (p ps js (record { are = h }))

pub step_equals : (w : Place) (r : EqualityRule) (a b : Tree) (cs : List Claim) → IsWellFormed a → IsWellFormed b → ((ps : List Claim) (js : Left) → Named ps cs js → passes (eq_test w ps r a b js) ≡ true) →
    StepHolds w (steps.equality r a b cs)
step_equals w r a b cs fa fb p = λ ps js h. and_true (are_fine a b) (passes (eq_test w ps r a b js)) (fine_both a b (fa, fb)) (p ps js (record { are = h }))
