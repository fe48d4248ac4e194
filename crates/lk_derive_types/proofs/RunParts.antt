-- What a run of a part of a row says.
use Rattle.std.proofs.Common.{ℕ, ◌≡◌, ◌+◌, Bool, true, false, Some, refl, arith}
use Rattle.lk_tree.specs.Tree.{Tree, Level, sort, pi}
use Rattle.lk_tree.specs.declared.rule.Rule.{Rule}
use Rattle.lk_rulebook.specs.Place.{Place}
use Rattle.lk_questions.specs.Query.{infer, whnf}
use Rattle.lk_questions.specs.Program.{Program, done, refuse, ask, look, ◌>>=◌}
use Rattle.lk_questions.specs.Steps.{given, as_sort, as_pi, sort_of}
use Rattle.lk_questions.specs.Tests.{found}
use Rattle.lk_table_sound.proofs.Soundness.{IsQuiet}
use Rattle.lk_step.specs.Rows.{IsAnswered}
use Rattle.lk_step.specs.Runs.{Runs}

-- sort(A) = l, and what comes then
pub record SortRun {B : Type 0} (w : Place) (A : Tree) (k : Level → Program B) (v : B) (n : ℕ) : Type 0 where
  pub between : Tree
  pub level : Level
  pub first : ℕ
  pub second : ℕ
  pub more : ℕ
  pub typed : IsAnswered w (infer A) between first
  pub reduced : IsAnswered w (whnf between) (sort level) second
  pub then_runs : Runs w (k level) v more
  pub paid : n ≡ first + (second + more)

pub sort_run : {B : Type 0} (w : Place) (A : Tree) (k : Level → Program B) (v : B) (n : ℕ) → Runs w (sort_of A >>= k) v n → SortRun w A k v n
sort_run w A k v n h =
    let paid : n ≡ h.1 + h.2 = h.5 in
    let more : h.2 ≡ h.4.1 + h.4.2 = h.4.5 in
    go h.4.0 h.4.3 h.4.4 (omega (arith, paid, more))
  where
    go : (u : Tree) → IsAnswered w (whnf h.0) u h.4.1 → Runs w (as_sort u >>= k) v h.4.2 → n ≡ h.1 + (h.4.1 + h.4.2) → SortRun w A k v n
    go (sort l) a r p = record { between = h.0; level = l; first = h.1; second = h.4.1; more = h.4.2; typed = h.3; reduced = a; then_runs = r; paid = p }
    go _ a r p = absurd r

-- F to a Pi, and what comes then
pub record PiRun {B : Type 0} (w : Place) (F : Tree) (k : Tree × Tree → Program B) (v : B) (n : ℕ) : Type 0 where
  pub domain : Tree
  pub body : Tree
  pub first : ℕ
  pub more : ℕ
  pub reduced : IsAnswered w (whnf F) (pi domain body) first
  pub then_runs : Runs w (k (domain, body)) v more
  pub paid : n ≡ first + more

pub pi_run : {B : Type 0} (w : Place) (r : Rule) (F : Tree) (k : Tree × Tree → Program B) (v : B) (n : ℕ) → Runs w (ask (whnf F) (λ S. as_pi r S >>= k)) v n → PiRun w F k v n
pi_run w r F k v n h = go h.0 h.3 h.4
  where
    go : (u : Tree) → IsAnswered w (whnf F) u h.1 → Runs w (as_pi r u >>= k) v h.2 → PiRun w F k v n
    go (pi A B) a i = record { domain = A; body = B; first = h.1; more = h.2; reduced = a; then_runs = i; paid = h.5 }
    go _ a i = absurd i

pub given_run : {B : Type 0} (w : Place) (b : Bool) (r : Rule) (p : Program B) (v : B) (n : ℕ) → Runs w (given b r p) v n → (b ≡ true) × Runs w p v n
given_run w true r p v n h = (refl, h)
given_run w false r p v n h = absurd h

-- a program that asks nothing finds its value, and costs nothing
pub quiet_run : {A : Type 0} (w : Place) (p : Program A) (v : A) (n : ℕ) → IsQuiet p → Runs w p v n → (found w p ≡ Some v) × (n ≡ 0)
quiet_run w (done u) v n q h = let e : u ≡ v = h.0 in (rw e refl, h.1)
quiet_run w (refuse r) v n q h = absurd h
quiet_run w (ask q k) v n i h = absurd i
quiet_run w (look r c k) v n q h = let x : (found w (k h.0) ≡ Some v) × (n ≡ 0) = quiet_run w (k h.0) v n (q h.0) h.2 in (rw h.1 x.0, x.1)
