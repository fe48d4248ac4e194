-- Tests that do not say no: whoever comes behind them is told yes.
use Rattle.std.proofs.Common.{ℕ, ◌≡◌, ◌+◌, ◌<◌, Bool, true, false, Option, Some, None, refl, sym, subst, arith}
use Rattle.lk_rulebook.specs.Place.{Place}
use Rattle.lk_questions.specs.Program.{Program}
use Rattle.lk_questions.specs.Pairs.{Line, otherwise, ◌or_else◌}
use Rattle.lk_step.specs.Runs.{Runs, RunsOn}
use Rattle.lk_step.specs.Tests.{IsRun, IsYes}
use Rattle.lk_step.proofs.Runs.{runs_on, runs_one}
use Rattle.lk_derive_eta.specs.Open.{IsNotNo}

abbrev pub open_run : {w : Place} {line : Line} {most : ℕ} → IsNotNo w line most → IsRun w line most
open_run o = record { value = o.value; cost = o.cost; runs = o.runs; within = o.within }

-- so it is however it was run
pub never_no : {w : Place} {line : Line} {most : ℕ} → IsNotNo w line most → (n : ℕ) → Runs w line (Some false) n → ⊥
never_no {w} {line} {most} o n h = o.not_no (runs_one w line o.value (Some false) o.cost n o.runs h)

-- what it says is yes
pub says_yes : {w : Place} {line : Line} {most : ℕ} → IsNotNo w line most → (v : Option Bool) (n : ℕ) → Runs w line v n → (y : Bool) → Some y ≡ v → y ≡ true
says_yes o v n h true e = refl
says_yes {w} {line} {most} o v n h false e = absurd (never_no o n (subst (λ x. Runs w line x n) (sym e) h))

-- the whole says yes, so the first test does not say no
pub line_open : (w : Place) (line : Line) (next : Program Bool) (most : ℕ) → IsYes w (line or_else next) most → IsNotNo w line most
line_open w line next most y =
    let on : RunsOn w line (λ o. otherwise o next) true y.cost = runs_on w line (λ o. otherwise o next) true y.cost y.runs in
    let paid : y.cost ≡ on.first + on.second = on.paid in
    let within : y.cost < most = y.within in
    record { value = on.value; cost = on.first; runs = on.runs; within = omega (arith, paid, within); not_no = λ e. go on.value on.second e on.then_runs }
  where
    go : (v : Option Bool) (m : ℕ) → v ≡ Some false → Runs w (otherwise v next) true m → ⊥
    go (Some false) m e r = let z : false ≡ true = r.0 in absurd cc
    go (Some true) m e r = absurd cc
    go None m e r = absurd cc
