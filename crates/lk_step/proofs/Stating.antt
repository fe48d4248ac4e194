-- A row states what the literal step of a term comes to.
use Rattle.std.proofs.Common.{ℕ, ◌≡◌, ◌+◌, ◌<◌, ◌≤◌, true, false, nat_eq, List, [], ◌∷◌, ◌++◌, length, Option, Some, refl, sym, ◌∙◌, subst, ap, arith}
use Rattle.std.proofs.lemmas.Bool.Decides.{nat_tests}
use Rattle.std.proofs.lemmas.List.{length-append}
use Rattle.lk_tree.specs.Tree.{Tree, app}
use Rattle.lk_tree.specs.Operations.{Op, succ, log2, arity}
use Rattle.lk_tree.specs.Spine.{apply, head, args}
use Rattle.lk_tree.specs.WellFormed.{IsWellFormed, AllWellFormed}
use Rattle.lk_tree.proofs.Spines.{well_formed_of_apply}
use Rattle.lk_tree.proofs.Within.{apply_head_args}
use Rattle.lk_rulebook.specs.Place.{Place}
use Rattle.lk_rulebook.specs.Claims.{Claim, reduces}
use Rattle.lk_questions.specs.Query.{whnf}
use Rattle.lk_questions.specs.LiteralLines.{step_of}
use Rattle.lk_written.specs.Line.{operation_rule}
use Rattle.lk_store.specs.Contents.{Contents, Extends}
use Rattle.lk_lit.specs.Operations.{is_app}
use Rattle.lk_step.specs.declared.step.Row.{Row}
use Rattle.lk_step.specs.Steps.{reduction, StepHolds}
use Rattle.lk_step.specs.Runs.{Runs}
use Rattle.lk_step.specs.Told.{IsAnsweredWithin}
use Rattle.lk_step.specs.Tests.{IsRun}
use Rattle.lk_step.specs.Parts.{AreThere, IsPartIn, States, AsksForm}
use Rattle.lk_step.specs.Computed.{AreRead, one_read, Computation, ComesTo, StatesValue, AddsValue, HasOperands}
use Rattle.lk_step.proofs.Comparing.{nothing_left}
use Rattle.lk_step.proofs.Computing.{computation, operation_holds, OneRead, one_argument, TwoRead, two_arguments}
use Rattle.lk_step.proofs.Parts.{first, behind, are_behind, all_of}
use Rattle.lk_step.proofs.PartsIn.{part_these, part_stays}

-- how many arguments there are
arity_some : (op : Op) → (0 < arity op) × (arity op ≤ 2)
arity_some succ = (omega arith, omega arith)
arity_some log2 = (omega arith, omega arith)
arity_some _ = (omega arith, omega arith)

pub has_operands : (w : Place) (e v : Tree) (most : ℕ) → ComesTo w e v most → HasOperands e
has_operands w e v most h =
    let k : Computation w e v h.cost = computation w e v h.cost h.runs in
    let count : nat_eq (length (args e)) (arity k.op) ≡ true = k.count in
    let some : 0 < arity k.op = (arity_some k.op).0 in
    let few : arity k.op ≤ 2 = (arity_some k.op).1 in
    (grind (arith, nat_tests, count, some), grind (arith, nat_tests, count, few))

no_args : (e : Tree) → is_app e ≡ false → args e ≡ []
unfolding args
no_args (app f a) h = absurd cc
no_args e h = refl

app_args : (e f a : Tree) → app f a ≡ e → args e ≡ args f ++ a ∷ []
unfolding args
app_args e f a is = ap args (sym is)

pub no_operands : (e : Tree) → is_app e ≡ false → HasOperands e → ⊥
no_operands e h k = let none : length (args e) ≡ 0 = ap length (no_args e h) in let some : 0 < length (args e) = k.0 in absurd (omega (arith, none, some))

pub one_operand : (e f x : Tree) → app f x ≡ e → is_app f ≡ false → args e ≡ x ∷ []
one_operand e f x is h = app_args e f x is ∙ ap (λ xs. xs ++ x ∷ []) (no_args f h)

pub two_operands : (e f g x y : Tree) → app f y ≡ e → app g x ≡ f → HasOperands e → args e ≡ x ∷ y ∷ []
two_operands e f g x y is front k =
    let all : args e ≡ (args g ++ x ∷ []) ++ y ∷ [] = app_args e f y is ∙ ap (λ xs. xs ++ y ∷ []) (app_args f g x front) in
    let more : length (args e) ≡ length (args g ++ x ∷ []) + 1 = ap length all ∙ length-append (args g ++ x ∷ []) (y ∷ []) in
    let less : length (args g ++ x ∷ []) ≡ length (args g) + 1 = length-append (args g) (x ∷ []) in
    let few : length (args e) ≤ 2 = k.1 in
    let none : args g ≡ [] = nothing_left (args g) (omega (arith, more, less, few)) in
    all ∙ ap (λ xs. (xs ++ x ∷ []) ++ y ∷ []) none

args_fine : (e : Tree) → IsWellFormed e → AllWellFormed (args e)
args_fine e f =
    let is : apply (head e) (args e) ≡ e = apply_head_args e in
    (well_formed_of_apply (head e) (args e) (subst IsWellFormed (sym is) f)).1

-- what was read is asked for within the budget
first_read : (w : Place) (x : Tree) (xs : List Tree) (ns : List ℕ) (cs : List Claim) (n most : ℕ) → n < most → AreRead w (x ∷ xs) ns cs n → IsAnsweredWithin w (whnf x) most
first_read w x xs _ _ _ most lt (one_read {v = v} {c = c} a i k) = (v, c, a, omega (arith, lt))

second_read : (w : Place) (x y : Tree) (xs : List Tree) (ns : List ℕ) (cs : List Claim) (n most : ℕ) → n < most → AreRead w (x ∷ y ∷ xs) ns cs n → IsAnsweredWithin w (whnf y) most
second_read w x y xs _ _ _ most lt (one_read {c = c} {m = m} {ns = ns} {cs = cs} a i k) = first_read w y xs ns cs m most (omega (arith, lt)) k

module _ (w : Place) (e v : Tree) (most : ℕ) (h : ComesTo w e v most) where
  comes_read : (xs : List Tree) → args e ≡ xs → AreRead w xs (computation w e v h.cost h.runs).numbers (computation w e v h.cost h.runs).claims h.cost
  comes_read xs is =
      let k : Computation w e v h.cost = computation w e v h.cost h.runs in
      subst (λ ys. AreRead w ys k.numbers k.claims h.cost) is k.read

  pub first_within : (x : Tree) (xs : List Tree) → args e ≡ x ∷ xs → IsAnsweredWithin w (whnf x) most
  first_within x xs is = let k : Computation w e v h.cost = computation w e v h.cost h.runs in first_read w x xs k.numbers k.claims h.cost most h.within (comes_read (x ∷ xs) is)

  pub second_within : (x y : Tree) (xs : List Tree) → args e ≡ x ∷ y ∷ xs → IsAnsweredWithin w (whnf y) most
  second_within x y xs is = let k : Computation w e v h.cost = computation w e v h.cost h.runs in second_read w x y xs k.numbers k.claims h.cost most h.within (comes_read (x ∷ y ∷ xs) is)

pub unary_states : (w : Place) (c d : Contents) (old mid new : Row) (e v x u : Tree) → IsWellFormed e → args e ≡ x ∷ [] → AsksForm w c d old mid x u →
    (StepHolds w (reduction operation_rule e v (reduces x u ∷ [])) → States w d mid new (reduces x u ∷ []) (reduces e v)) → StatesValue w c d old new e v
unary_states w c d old mid new e v x u f is a states = record {
  asks = λ n h xs s p.
      let k : Computation w e v n = computation w e v n h in
      let read : AreRead w (x ∷ []) k.numbers k.claims n = subst (λ ys. AreRead w ys k.numbers k.claims n) is k.read in
      let one : OneRead w x u a.cost k.claims n = one_argument w x u a.cost k.numbers k.claims n a.answered read in
      let cost : n ≡ a.cost = one.cost_is in
      let holds : StepHolds w (reduction operation_rule e v (reduces x u ∷ [])) = subst (λ cs. StepHolds w (reduction operation_rule e v cs)) one.claims_are (operation_holds w e v n k f) in
      let fx : AllWellFormed (x ∷ []) = subst AllWellFormed is (args_fine e f) in
      let q : IsPartIn w d mid (reduces x u ∷ xs) (s + a.cost) = a.asks fx.0 xs s p in
      let r : IsPartIn w d new (reduces e v ∷ reduces x u ∷ xs) (s + a.cost) = states holds (reduces x u ∷ xs) (s + a.cost) (first (reduces x u) xs, tt) q in
      let there : AreThere (reduces e v ∷ reduces x u ∷ xs) xs = are_behind (reduces e v) (reduces x u ∷ xs) xs (are_behind (reduces x u) xs xs (all_of xs)) in
      part_these w d new (reduces e v ∷ reduces x u ∷ xs) (reduces e v ∷ xs) (s + a.cost) (s + n) (first (reduces e v) (reduces x u ∷ xs), there) (omega (arith, cost)) r;
}

pub binary_states : (w : Place) (c m d : Contents) (old one two new : Row) (e v x u y z : Tree) → IsWellFormed e → args e ≡ x ∷ y ∷ [] → AsksForm w c m old one x u → AsksForm w m d one two y z →
    (StepHolds w (reduction operation_rule e v (reduces x u ∷ reduces y z ∷ [])) → States w d two new (reduces x u ∷ reduces y z ∷ []) (reduces e v)) → StatesValue w c d old new e v
binary_states w c m d old one two new e v x u y z f is a b states = record {
  asks = λ n h xs s p.
      let k : Computation w e v n = computation w e v n h in
      let read : AreRead w (x ∷ y ∷ []) k.numbers k.claims n = subst (λ ys. AreRead w ys k.numbers k.claims n) is k.read in
      let both : TwoRead w x u y z a.cost b.cost k.claims n = two_arguments w x u y z a.cost b.cost k.numbers k.claims n a.answered b.answered read in
      let cost : n ≡ a.cost + b.cost = both.cost_is in
      let holds : StepHolds w (reduction operation_rule e v (reduces x u ∷ reduces y z ∷ [])) = subst (λ cs. StepHolds w (reduction operation_rule e v cs)) both.claims_are (operation_holds w e v n k f) in
      let fx : AllWellFormed (x ∷ y ∷ []) = subst AllWellFormed is (args_fine e f) in
      let q : IsPartIn w m one (reduces x u ∷ xs) (s + a.cost) = a.asks fx.0 xs s p in
      let r : IsPartIn w d two (reduces y z ∷ reduces x u ∷ xs) (s + a.cost + b.cost) = b.asks fx.1.0 (reduces x u ∷ xs) (s + a.cost) q in
      let t : IsPartIn w d new (reduces e v ∷ reduces y z ∷ reduces x u ∷ xs) (s + a.cost + b.cost) =
      states holds (reduces y z ∷ reduces x u ∷ xs) (s + a.cost + b.cost) (behind (reduces y z) (reduces x u ∷ xs) (reduces x u) (first (reduces x u) xs), (first (reduces y z) (reduces x u ∷ xs), tt)) r in
      let there : AreThere (reduces e v ∷ reduces y z ∷ reduces x u ∷ xs) xs =
      are_behind (reduces e v) (reduces y z ∷ reduces x u ∷ xs) xs (are_behind (reduces y z) (reduces x u ∷ xs) xs (are_behind (reduces x u) xs xs (all_of xs))) in
      part_these w d new (reduces e v ∷ reduces y z ∷ reduces x u ∷ xs) (reduces e v ∷ xs) (s + a.cost + b.cost) (s + n) (first (reduces e v) (reduces y z ∷ reduces x u ∷ xs), there) (omega (arith, cost)) t;
}

-- the one value that a run gives
pub comes_to : (w : Place) (e v : Tree) (most : ℕ) (k : IsRun w (step_of e (head e)) most) → k.value ≡ Some v → ComesTo w e v most
comes_to w e v most k is = record { cost = k.cost; runs = subst (λ r. Runs w (step_of e (head e)) r k.cost) is k.runs; within = k.within }

-- the same at a place of another name, and from another store
pub comes_at : (w w' : Place) (e e' v v' : Tree) (most : ℕ) → w' ≡ w → e' ≡ e → v' ≡ v → ComesTo w e v most → ComesTo w' e' v' most
comes_at w w' e e' v v' most ew ee ev h = subst (λ z. ComesTo z e' v' most) (sym ew) (subst (λ z. ComesTo w z v' most) (sym ee) (subst (λ z. ComesTo w e z most) (sym ev) h))

pub adds_value : (w : Place) (c m d : Contents) → Extends c m → (old new : Row) (e v : Tree) → ((r : Option Tree) (n : ℕ) → Runs w (step_of e (head e)) r n → r ≡ Some v) → StatesValue w m d old new e v → AddsValue w c d old new e v
adds_value w c m d x old new e v comes s = record {
  gives = comes;
  asks = λ r n h xs k p. s.asks n (subst (λ q. Runs w (step_of e (head e)) q n) (comes r n h) h) xs k (part_stays w c m x old xs k p);
}

pub states_at : (w w' : Place) (c d : Contents) (old new : Row) (e e' v v' : Tree) → w' ≡ w → e' ≡ e → v' ≡ v → StatesValue w' c d old new e' v' → StatesValue w c d old new e v
states_at w w' c d old new e e' v v' ew ee ev h = subst (λ z. StatesValue z c d old new e v) ew (subst (λ z. StatesValue w' c d old new z v) ee (subst (λ z. StatesValue w' c d old new e' z) ev h))
