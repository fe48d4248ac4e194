-- Two terms of which one is an operation that is computed.
use Rattle.std.proofs.Common.{ℕ, ◌≡◌, ◌+◌, ◌<◌, ◌≤◌, inl, Bool, true, false, List, [], ◌∷◌, length, Option, Some, None, refl, sym, subst, arith}
use Rattle.lk_tree.specs.Tree.{Tree}
use Rattle.lk_tree.specs.Spine.{head}
use Rattle.lk_tree.specs.WellFormed.{IsWellFormed}
use Rattle.lk_rulebook.specs.Place.{Place}
use Rattle.lk_rulebook.specs.Claims.{Claim, reduces, equals}
use Rattle.lk_questions.specs.Query.{same}
use Rattle.lk_questions.specs.Program.{done, asked}
use Rattle.lk_questions.specs.Pairs.{Line, answers}
use Rattle.lk_questions.specs.LiteralLines.{step_of, same_first, same_second, step_first, step_second}
use Rattle.lk_claims.proofs.Facts.{same_self}
use Rattle.lk_store.specs.Contents.{Contents, tree_at}
use Rattle.lk_step.specs.declared.step.Row.{Row}
use Rattle.lk_step.specs.Rows.{IsAnswered}
use Rattle.lk_step.specs.Runs.{Runs, RunsOn}
use Rattle.lk_step.specs.Tests.{IsRun, AreReduced}
use Rattle.lk_step.specs.Tells.{Tells}
use Rattle.lk_step.specs.Parts.{IsPartIn, IsEmpty}
use Rattle.lk_step.specs.Meaning.{IsRowIn}
use Rattle.lk_step.specs.Computed.{AddsValue}
use Rattle.lk_step.proofs.Computing.{computation, value_fine}
use Rattle.lk_step.proofs.Parts.{first, all_of}
use Rattle.lk_step.proofs.PartsIn.{part_none, part_these}
use Rattle.lk_step.proofs.Runs.{runs_on}
use Rattle.lk_derive_lit.specs.Added.{AddsSame}
use Rattle.lk_derive_lit.specs.Undenied.{IsUndenied}
use Rattle.lk_derive_lit.proofs.Added.{basis_of_part, adds_same}
use Rattle.lk_derive_lit.proofs.Undenied.{undenied_run}

part_within : (w : Place) (c : Contents) (r : Row) (xs : List Claim) (n m : ℕ) → n ≤ m → IsPartIn w c r xs n → IsPartIn w c r xs m
part_within w c r xs n m lt p = part_these w c r xs xs n m (all_of xs) lt p

-- what is asked in the end, where that is not denied
pub record AnswersYes (w : Place) (x y : Tree) (n : ℕ) : Type 0 where
  pub cost : ℕ
  pub answered : IsAnswered w (same x y) true cost
  pub paid : cost ≤ n

pub answers_yes : (w : Place) (x y : Tree) (says : Option Bool) (n : ℕ) → Runs w (answers (asked (same x y))) says n → (says ≡ Some false → ⊥) → AnswersYes w x y n
answers_yes w x y says n h undenied = go h.0 h.3 h.4
  where
    paid : n ≡ h.1 + h.2
    paid = h.5

    go : (u : Bool) → IsAnswered w (same x y) u h.1 → Runs w (done (Some u)) says h.2 → AnswersYes w x y n
    go true a r = record { cost = h.1; answered = a; paid = omega (arith, paid) }
    go false a r = absurd (undenied (sym r.0))

-- the literal step of the first
module _ (w : Place) (a b : Tree) (most : ℕ) where
  pub first_run : IsUndenied w (step_first a b) most → IsRun w (step_of a (head a)) most
  first_run u =
      let on : RunsOn w (step_of a (head a)) (λ r. same_first r b) u.value u.cost = runs_on w (step_of a (head a)) (λ r. same_first r b) u.value u.cost u.runs in
      let paid : u.cost ≡ on.first + on.second = on.paid in
      let within : u.cost < most = u.within in
      record { value = on.value; cost = on.first; runs = on.runs; within = omega (arith, paid, within) }

  pub second_run : IsUndenied w (step_second a b) most → IsRun w (step_of b (head b)) most
  second_run u =
      let on : RunsOn w (step_of b (head b)) (λ r. same_second a r) u.value u.cost = runs_on w (step_of b (head b)) (λ r. same_second a r) u.value u.cost u.runs in
      let paid : u.cost ≡ on.first + on.second = on.paid in
      let within : u.cost < most = u.within in
      record { value = on.value; cost = on.first; runs = on.runs; within = omega (arith, paid, within) }

pub first_none : (w : Place) (a b : Tree) → ((r : Option Tree) (n : ℕ) → Runs w (step_of a (head a)) r n → r ≡ None) → (says : Option Bool) (n : ℕ) → Runs w (step_first a b) says n → says ≡ None
first_none w a b none says n h =
    let on : RunsOn w (step_of a (head a)) (λ r. same_first r b) says n = runs_on w (step_of a (head a)) (λ r. same_first r b) says n h in
    let r : Runs w (same_first None b) says on.second = subst (λ o. Runs w (same_first o b) says on.second) (none on.value on.first on.runs) on.then_runs in
    sym r.0

pub second_none : (w : Place) (a b : Tree) → ((r : Option Tree) (n : ℕ) → Runs w (step_of b (head b)) r n → r ≡ None) → (says : Option Bool) (n : ℕ) → Runs w (step_second a b) says n → says ≡ None
second_none w a b none says n h =
    let on : RunsOn w (step_of b (head b)) (λ r. same_second a r) says n = runs_on w (step_of b (head b)) (λ r. same_second a r) says n h in
    let r : Runs w (same_second a None) says on.second = subst (λ o. Runs w (same_second a o) says on.second) (none on.value on.first on.runs) on.then_runs in
    sym r.0

-- both by numbers, at a store that has the value
module _ (w : Place) (c d : Contents) (old mid new : Row) (a b v : ℕ) (la : a < length d.trees) (lb : b < length d.trees) (lv : v < length d.trees) (empty : IsEmpty old) (pair : AreReduced w (tree_at d a) (tree_at d b)) where
  pub first_part : AddsValue w c d old mid (tree_at d a) (tree_at d v) → AddsSame mid new a b v b → (says : Option Bool) (n : ℕ) → Runs w (step_first (tree_at d a) (tree_at d b)) says n → (says ≡ Some false → ⊥) →
      IsPartIn w d new (equals (tree_at d a) (tree_at d b) ∷ equals (tree_at d v) (tree_at d b) ∷ reduces (tree_at d a) (tree_at d v) ∷ []) n
  first_part adds more says n h undenied =
      let t = tree_at d in
      let on : RunsOn w (step_of (t a) (head (t a))) (λ r. same_first r (t b)) says n = runs_on w (step_of (t a) (head (t a))) (λ r. same_first r (t b)) says n h in
      let is : on.value ≡ Some (t v) = adds.gives on.value on.first on.runs in
      let run : Runs w (step_of (t a) (head (t a))) (Some (t v)) on.first = subst (λ o. Runs w (step_of (t a) (head (t a))) o on.first) is on.runs in
      let fine : IsWellFormed (t v) = value_fine w (t a) (t v) on.first (computation w (t a) (t v) on.first run) in
      let y : AnswersYes w (t v) (t b) on.second = answers_yes w (t v) (t b) says on.second (subst (λ o. Runs w (same_first o (t b)) says on.second) is on.then_runs) undenied in
      let p : IsPartIn w d mid (reduces (t a) (t v) ∷ []) (0 + on.first) = adds.asks on.value on.first on.runs [] 0 (part_none w c old empty) in
      let q : IsPartIn w d new (equals (t a) (t b) ∷ equals (t v) (t b) ∷ reduces (t a) (t v) ∷ []) (0 + on.first + y.cost) =
      adds_same w d mid new a b v b (reduces (t a) (t v) ∷ []) (0 + on.first) y.cost la lb lv lb more p (first (reduces (t a) (t v)) [], (inl (same_self (t b)), tt)) pair.left pair.right fine pair.right y.answered (λ e i. refl) in
      let paid : n ≡ on.first + on.second = on.paid in
      let less : y.cost ≤ on.second = y.paid in
      part_within w d new (equals (t a) (t b) ∷ equals (t v) (t b) ∷ reduces (t a) (t v) ∷ []) (0 + on.first + y.cost) n (omega (arith, paid, less)) q

  pub second_part : AddsValue w c d old mid (tree_at d b) (tree_at d v) → AddsSame mid new a b a v → ((r : Option Tree) (n : ℕ) → Runs w (step_of (tree_at d a) (head (tree_at d a))) r n → r ≡ None) →
      (says : Option Bool) (n : ℕ) → Runs w (step_second (tree_at d a) (tree_at d b)) says n → (says ≡ Some false → ⊥) →
      IsPartIn w d new (equals (tree_at d a) (tree_at d b) ∷ equals (tree_at d a) (tree_at d v) ∷ reduces (tree_at d b) (tree_at d v) ∷ []) n
  second_part adds more none says n h undenied =
      let t = tree_at d in
      let on : RunsOn w (step_of (t b) (head (t b))) (λ r. same_second (t a) r) says n = runs_on w (step_of (t b) (head (t b))) (λ r. same_second (t a) r) says n h in
      let is : on.value ≡ Some (t v) = adds.gives on.value on.first on.runs in
      let run : Runs w (step_of (t b) (head (t b))) (Some (t v)) on.first = subst (λ o. Runs w (step_of (t b) (head (t b))) o on.first) is on.runs in
      let fine : IsWellFormed (t v) = value_fine w (t b) (t v) on.first (computation w (t b) (t v) on.first run) in
      let y : AnswersYes w (t a) (t v) on.second = answers_yes w (t a) (t v) says on.second (subst (λ o. Runs w (same_second (t a) o) says on.second) is on.then_runs) undenied in
      let p : IsPartIn w d mid (reduces (t b) (t v) ∷ []) (0 + on.first) = adds.asks on.value on.first on.runs [] 0 (part_none w c old empty) in
      let other : t a ≡ t b → ⊥ = λ e. let no : Some (t v) ≡ None = none (Some (t v)) on.first (subst (λ z. Runs w (step_of z (head z)) (Some (t v)) on.first) (sym e) run) in absurd cc in
      let q : IsPartIn w d new (equals (t a) (t b) ∷ equals (t a) (t v) ∷ reduces (t b) (t v) ∷ []) (0 + on.first + y.cost) =
      adds_same w d mid new a b a v (reduces (t b) (t v) ∷ []) (0 + on.first) y.cost la lb la lv more p (inl (same_self (t a)), (first (reduces (t b) (t v)) [], tt)) pair.left pair.right pair.left fine y.answered (λ e i. absurd (other e)) in
      let paid : n ≡ on.first + on.second = on.paid in
      let less : y.cost ≤ on.second = y.paid in
      part_within w d new (equals (t a) (t b) ∷ equals (t a) (t v) ∷ reduces (t b) (t v) ∷ []) (0 + on.first + y.cost) n (omega (arith, paid, less)) q

  -- a row where the test says yes
  module _ (most : ℕ) where
    pub first_tells : AddsValue w c d old mid (tree_at d a) (tree_at d v) → AddsSame mid new a b v b → IsUndenied w (step_first (tree_at d a) (tree_at d b)) most → Tells w d (step_first (tree_at d a) (tree_at d b)) (equals (tree_at d a) (tree_at d b)) (Some new)
    first_tells adds more u says n h =
        basis_of_part w d new (equals (tree_at d a) (tree_at d b)) (equals (tree_at d v) (tree_at d b) ∷ reduces (tree_at d a) (tree_at d v) ∷ []) n n (omega arith)
        (first_part adds more says n h (undenied_run w (step_first (tree_at d a) (tree_at d b)) most u says n h))

    pub first_known : AddsValue w c d old mid (tree_at d a) (tree_at d v) → AddsSame mid new a b v b → IsUndenied w (step_first (tree_at d a) (tree_at d b)) most → IsRowIn d new
    first_known adds more u = (first_part adds more u.value u.cost u.runs u.undenied).known

    pub second_tells : AddsValue w c d old mid (tree_at d b) (tree_at d v) → AddsSame mid new a b a v → ((r : Option Tree) (n : ℕ) → Runs w (step_of (tree_at d a) (head (tree_at d a))) r n → r ≡ None) →
        IsUndenied w (step_second (tree_at d a) (tree_at d b)) most → Tells w d (step_second (tree_at d a) (tree_at d b)) (equals (tree_at d a) (tree_at d b)) (Some new)
    second_tells adds more none u says n h =
        basis_of_part w d new (equals (tree_at d a) (tree_at d b)) (equals (tree_at d a) (tree_at d v) ∷ reduces (tree_at d b) (tree_at d v) ∷ []) n n (omega arith)
        (second_part adds more none says n h (undenied_run w (step_second (tree_at d a) (tree_at d b)) most u says n h))

    pub second_known : AddsValue w c d old mid (tree_at d b) (tree_at d v) → AddsSame mid new a b a v → ((r : Option Tree) (n : ℕ) → Runs w (step_of (tree_at d a) (head (tree_at d a))) r n → r ≡ None) →
        IsUndenied w (step_second (tree_at d a) (tree_at d b)) most → IsRowIn d new
    second_known adds more none u = (second_part adds more none u.value u.cost u.runs u.undenied).known

pub record ToldAt (w : Place) (d : Contents) (line : Line) (claim : Claim) (r : Row) : Type 0 where
  pub tells : Tells w d line claim (Some r)
  pub known : IsRowIn d r

pub told_first : (w : Place) (c d : Contents) (old mid new : Row) (a b v : ℕ) (x y : Tree) (most : ℕ) → tree_at d a ≡ x → tree_at d b ≡ y → a < length d.trees → b < length d.trees → v < length d.trees → IsEmpty old → AreReduced w x y →
    AddsValue w c d old mid x (tree_at d v) → AddsSame mid new a b v b → IsUndenied w (step_first x y) most → ToldAt w d (step_first x y) (equals x y) new
told_first w c d old mid new a b v x y most ea eb la lb lv empty pair adds more u =
    let pair' : AreReduced w (tree_at d a) (tree_at d b) = subst (λ z. AreReduced w z (tree_at d b)) (sym ea) (subst (λ z. AreReduced w x z) (sym eb) pair) in
    let adds' : AddsValue w c d old mid (tree_at d a) (tree_at d v) = subst (λ z. AddsValue w c d old mid z (tree_at d v)) (sym ea) adds in
    let u' : IsUndenied w (step_first (tree_at d a) (tree_at d b)) most = subst (λ z. IsUndenied w (step_first z (tree_at d b)) most) (sym ea) (subst (λ z. IsUndenied w (step_first x z) most) (sym eb) u) in
    let told : ToldAt w d (step_first (tree_at d a) (tree_at d b)) (equals (tree_at d a) (tree_at d b)) new = record {
      tells = first_tells w c d old mid new a b v la lb lv empty pair' most adds' more u';
      known = first_known w c d old mid new a b v la lb lv empty pair' most adds' more u';
    } in
    subst (λ z. ToldAt w d (step_first z y) (equals z y) new) ea (subst (λ z. ToldAt w d (step_first (tree_at d a) z) (equals (tree_at d a) z) new) eb told)

pub told_second : (w : Place) (c d : Contents) (old mid new : Row) (a b v : ℕ) (x y : Tree) (most : ℕ) → tree_at d a ≡ x → tree_at d b ≡ y → a < length d.trees → b < length d.trees → v < length d.trees → IsEmpty old → AreReduced w x y →
    AddsValue w c d old mid y (tree_at d v) → AddsSame mid new a b a v → ((r : Option Tree) (n : ℕ) → Runs w (step_of x (head x)) r n → r ≡ None) → IsUndenied w (step_second x y) most → ToldAt w d (step_second x y) (equals x y) new
told_second w c d old mid new a b v x y most ea eb la lb lv empty pair adds more none u =
    let pair' : AreReduced w (tree_at d a) (tree_at d b) = subst (λ z. AreReduced w z (tree_at d b)) (sym ea) (subst (λ z. AreReduced w x z) (sym eb) pair) in
    let adds' : AddsValue w c d old mid (tree_at d b) (tree_at d v) = subst (λ z. AddsValue w c d old mid z (tree_at d v)) (sym eb) adds in
    let none' : (r : Option Tree) (n : ℕ) → Runs w (step_of (tree_at d a) (head (tree_at d a))) r n → r ≡ None = subst (λ z. (r : Option Tree) (n : ℕ) → Runs w (step_of z (head z)) r n → r ≡ None) (sym ea) none in
    let u' : IsUndenied w (step_second (tree_at d a) (tree_at d b)) most = subst (λ z. IsUndenied w (step_second z (tree_at d b)) most) (sym ea) (subst (λ z. IsUndenied w (step_second x z) most) (sym eb) u) in
    let told : ToldAt w d (step_second (tree_at d a) (tree_at d b)) (equals (tree_at d a) (tree_at d b)) new = record {
      tells = second_tells w c d old mid new a b v la lb lv empty pair' most adds' more none' u';
      known = second_known w c d old mid new a b v la lb lv empty pair' most adds' more none' u';
    } in
    subst (λ z. ToldAt w d (step_second z y) (equals z y) new) ea (subst (λ z. ToldAt w d (step_second (tree_at d a) z) (equals (tree_at d a) z) new) eb told)
