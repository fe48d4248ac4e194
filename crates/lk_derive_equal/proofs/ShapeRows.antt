-- Two sorts, and two binders.
use Rattle.std.proofs.Common.{ℕ, ◌≡◌, ◌+◌, ◌≤◌, max, Bool, true, false, List, [], ◌∷◌, Option, Some, None, nat_eq, eqb-true, ap, refl, sym, ◌∙◌, subst, if◌then◌else◌, arith}
use Rattle.lk_tree.specs.Tree.{Tree, Level, sort, lam, pi, lit, str, local}
use Rattle.lk_tree.specs.Bind.{opened, bound}
use Rattle.lk_tree.specs.WellFormed.{IsWellFormed, IsWellFormedUnder}
use Rattle.lk_tree.specs.LevelTest.{level_test}
use Rattle.lk_tree.proofs.Binding.{open_fine}
use Rattle.lk_rulebook.specs.Place.{Place}
use Rattle.lk_rulebook.specs.Claims.{equals}
use Rattle.lk_claims.proofs.Pieces.{same_tree}
use Rattle.lk_questions.specs.Query.{same}
use Rattle.lk_questions.specs.Program.{done, asked}
use Rattle.lk_questions.specs.Levels.{tested}
use Rattle.lk_questions.specs.Pairs.{same_bodies}
use Rattle.lk_questions.specs.Same.{by_shape}
use Rattle.lk_questions.specs.Tests.{is_true}
use Rattle.lk_written.specs.Line.{EqualityRule, sorts_rule, lams_rule, pis_rule}
use Rattle.lk_step.specs.Steps.{equality, StepHolds}
use Rattle.lk_step.specs.Equal.{body_claims}
use Rattle.lk_step.specs.Rows.{IsAnswered, no_claim, a_claim}
use Rattle.lk_step.specs.Runs.{Runs}
use Rattle.lk_step.proofs.EqualitySteps.{equality_steps}
use Rattle.lk_step.specs.Tests.{IsYes}
use Rattle.lk_step.specs.Tells.{IsBasis}
use Rattle.lk_derive_equal.specs.Binders.{local_of}
use Rattle.lk_step.proofs.Bases.{one_step}

tested_yes : (w : Place) (o : Option Bool) (n : ℕ) → Runs w (tested o) true n → is_true o ≡ true
tested_yes w (Some v) n h = h.0
tested_yes w None n h = absurd h

pub sorts_basis : (w : Place) (a b : Tree) (l m : Level) → a ≡ sort l → b ≡ sort m → (n : ℕ) → Runs w (by_shape a b) true n → IsBasis w (equals a b) n [] (equality sorts_rule a b [] ∷ [])
sorts_basis w a b l m i j n h =
    let r : Runs w (tested (level_test l m)) true n = subst (λ b. Runs w (by_shape (sort l) b) true n) j (subst (λ a. Runs w (by_shape a b) true n) i h) in
    subst (λ a. IsBasis w (equals a b) n [] (equality sorts_rule a b [] ∷ [])) (sym i)
    (subst (λ b. IsBasis w (equals (sort l) b) n [] (equality sorts_rule (sort l) b [] ∷ [])) (sym j)
    (one_step w (equality sorts_rule (sort l) (sort m) []) [] [] 0 n no_claim (omega arith) ((equality_steps w).sorts l m (tested_yes w (level_test l m) n r)) refl))

-- domains and bodies that were found the same
record AreSameBodies (w : Place) (A A' e f : Tree) (n : ℕ) : Type 0 where
  first : ℕ
  second : ℕ
  domains : IsAnswered w (same A A') true first
  bodies : IsAnswered w (same e f) true second
  paid : first + second ≤ n

bodies_yes : (w : Place) (k : ℕ) (A b A' b' : Tree) (n : ℕ) → Runs w (same_bodies k A b A' b') true n → AreSameBodies w A A' (opened b (local k A)) (opened b' (local k A)) n
bodies_yes w k A b A' b' n h = go h.0 h.1 h.2 h.3 h.4 h.5
  where
    go : (u : Bool) (c m : ℕ) → IsAnswered w (same A A') u c → Runs w (if u then asked (same (opened b (local k A)) (opened b' (local k A))) else done false) true m → n ≡ c + m → AreSameBodies w A A' (opened b (local k A)) (opened b' (local k A)) n
    go true c m x r paid =
        let last : r.2 ≡ 0 = r.4.1 in
        let all : m ≡ r.1 + r.2 = r.5 in
        record { first = c; second = r.1; domains = x; bodies = subst (λ u. IsAnswered w (same (opened b (local k A)) (opened b' (local k A))) u r.1) r.4.0 r.3; paid = omega (arith, paid, last, all) }
    go false c m x r paid = absurd cc

-- both are opened with one Local
record IsFreshFor (x A b b' : Tree) : Type 0 where
  local_fine : IsWellFormed x
  left_fine : IsWellFormed (opened b x)
  right_fine : IsWellFormed (opened b' x)

opened_fine : (k : ℕ) (A b b' : Tree) → IsWellFormed A → bound A ≤ k → IsWellFormedUnder 1 b → IsWellFormedUnder 1 b' → IsFreshFor (local k A) A b b'
opened_fine k A b b' fA low fb fb' =
    let x : IsWellFormed (local k A) = (fA, low) in
    record { local_fine = x; left_fine = open_fine 0 (local k A) b fb x; right_fine = open_fine 0 (local k A) b' fb' x }

bodies_basis : (w : Place) (s : EqualityRule) (a b : Tree) (k : ℕ) (A e A' f : Tree) (n : ℕ) → IsWellFormed A → IsWellFormed A' → bound A ≤ k → IsWellFormedUnder 1 e → IsWellFormedUnder 1 f
    → StepHolds w (equality s a b (body_claims (local k A) A A' e f)) → Runs w (same_bodies k A e A' f) true n
    → IsBasis w (equals a b) n (same A A' ∷ same (opened e (local k A)) (opened f (local k A)) ∷ []) (equality s a b (body_claims (local k A) A A' e f) ∷ [])
bodies_basis w s a b k A e A' f n fA fA' low fe ff holds h =
    let y : AreSameBodies w A A' (opened e (local k A)) (opened f (local k A)) n = bodies_yes w k A e A' f n h in
    let o : IsFreshFor (local k A) A e f = opened_fine k A e f fA low fe ff in
    let paid : y.first + y.second ≤ n = y.paid in
    one_step w (equality s a b (body_claims (local k A) A A' e f)) (same A A' ∷ same (opened e (local k A)) (opened f (local k A)) ∷ []) (body_claims (local k A) A A' e f) (y.first + (y.second + 0)) n
    (a_claim (same A A') true y.first (fA, fA') y.domains refl (a_claim (same (opened e (local k A)) (opened f (local k A))) true y.second (o.left_fine, o.right_fine) y.bodies refl no_claim))
    (omega (arith, paid)) holds refl

low_lam : (A e b : Tree) → bound A ≤ max (bound (lam A e)) (bound b)
unfolding bound
low_lam A e b = omega arith

low_pi : (A e b : Tree) → bound A ≤ max (bound (pi A e)) (bound b)
unfolding bound
low_pi A e b = omega arith

pub lambdas_basis : (w : Place) (a b A e A' f : Tree) → lam A e ≡ a → lam A' f ≡ b → IsWellFormed a → IsWellFormed b → (n : ℕ) → Runs w (by_shape a b) true n
    → IsBasis w (equals a b) n (same A A' ∷ same (opened e (local_of a b A)) (opened f (local_of a b A)) ∷ []) (equality (lams_rule (local_of a b A)) a b (equals A A' ∷ equals (opened e (local_of a b A)) (opened f (local_of a b A)) ∷ []) ∷ [])
lambdas_basis w a b A e A' f i j fa fb n =
    subst (λ a. IsWellFormed a → Runs w (by_shape a b) true n → IsBasis w (equals a b) n (same A A' ∷ same (opened e (local_of a b A)) (opened f (local_of a b A)) ∷ []) (equality (lams_rule (local_of a b A)) a b (equals A A' ∷ equals (opened e (local_of a b A)) (opened f (local_of a b A)) ∷ []) ∷ [])) i
    (λ fa. subst (λ b. IsWellFormed b → Runs w (by_shape (lam A e) b) true n → IsBasis w (equals (lam A e) b) n (same A A' ∷ same (opened e (local_of (lam A e) b A)) (opened f (local_of (lam A e) b A)) ∷ []) (equality (lams_rule (local_of (lam A e) b A)) (lam A e) b (equals A A' ∷ equals (opened e (local_of (lam A e) b A)) (opened f (local_of (lam A e) b A)) ∷ []) ∷ [])) j
    (λ fb h. bodies_basis w (lams_rule (local_of (lam A e) (lam A' f) A)) (lam A e) (lam A' f) (max (bound (lam A e)) (bound (lam A' f))) A e A' f n fa.0 fb.0 (low_lam A e (lam A' f)) fa.1 fb.1
    ((equality_steps w).lams A A' e f (max (bound (lam A e)) (bound (lam A' f))) (omega arith, (omega arith, tt)) fa fb) h) fb) fa

pub pis_basis : (w : Place) (a b A e A' f : Tree) → pi A e ≡ a → pi A' f ≡ b → IsWellFormed a → IsWellFormed b → (n : ℕ) → Runs w (by_shape a b) true n
    → IsBasis w (equals a b) n (same A A' ∷ same (opened e (local_of a b A)) (opened f (local_of a b A)) ∷ []) (equality (pis_rule (local_of a b A)) a b (equals A A' ∷ equals (opened e (local_of a b A)) (opened f (local_of a b A)) ∷ []) ∷ [])
pis_basis w a b A e A' f i j fa fb n =
    subst (λ a. IsWellFormed a → Runs w (by_shape a b) true n → IsBasis w (equals a b) n (same A A' ∷ same (opened e (local_of a b A)) (opened f (local_of a b A)) ∷ []) (equality (pis_rule (local_of a b A)) a b (equals A A' ∷ equals (opened e (local_of a b A)) (opened f (local_of a b A)) ∷ []) ∷ [])) i
    (λ fa. subst (λ b. IsWellFormed b → Runs w (by_shape (pi A e) b) true n → IsBasis w (equals (pi A e) b) n (same A A' ∷ same (opened e (local_of (pi A e) b A)) (opened f (local_of (pi A e) b A)) ∷ []) (equality (pis_rule (local_of (pi A e) b A)) (pi A e) b (equals A A' ∷ equals (opened e (local_of (pi A e) b A)) (opened f (local_of (pi A e) b A)) ∷ []) ∷ [])) j
    (λ fb h. bodies_basis w (pis_rule (local_of (pi A e) (pi A' f) A)) (pi A e) (pi A' f) (max (bound (pi A e)) (bound (pi A' f))) A e A' f n fa.0 fb.0 (low_pi A e (pi A' f)) fa.1 fb.1
    ((equality_steps w).pis A A' e f (max (bound (pi A e)) (bound (pi A' f))) (omega arith, (omega arith, tt)) fa fb) h) fb) fa

pub lits_same : (w : Place) (a b : Tree) (m n most : ℕ) → lit m ≡ a → lit n ≡ b → IsYes w (by_shape a b) most → a ≡ b
lits_same w a b m n most i j y =
    let r : Runs w (done (nat_eq m n)) true y.cost = subst (λ b. Runs w (by_shape (lit m) b) true y.cost) (sym j) (subst (λ a. Runs w (by_shape a b) true y.cost) (sym i) y.runs) in
    let one : m ≡ n = eqb-true m n r.0 in
    sym i ∙ (ap lit one ∙ j)

pub texts_same : (w : Place) (a b : Tree) (s t : List ℕ) (most : ℕ) → str s ≡ a → str t ≡ b → IsYes w (by_shape a b) most → a ≡ b
texts_same w a b s t most i j y =
    let r : Runs w (by_shape (str s) (str t)) true y.cost = subst (λ b. Runs w (by_shape (str s) b) true y.cost) (sym j) (subst (λ a. Runs w (by_shape a b) true y.cost) (sym i) y.runs) in
    sym i ∙ (same_tree (str s) (str t) r.0 ∙ j)
