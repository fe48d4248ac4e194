-- A test of Same, and what comes behind it.
use Rattle.std.proofs.Common.{ℕ, ◌≡◌, ◌+◌, ◌<◌, ◌≤◌, Bool, true, false, Option, Some, None, subst, arith}
use Rattle.lk_rulebook.specs.Place.{Place}
use Rattle.lk_rulebook.specs.Claims.{Claim}
use Rattle.lk_questions.specs.Program.{Program}
use Rattle.lk_questions.specs.Pairs.{Line, otherwise, ◌or_else◌}
use Rattle.lk_store.specs.Contents.{Contents}
use Rattle.lk_step.specs.declared.step.Row.{Row}
use Rattle.lk_step.specs.Runs.{Runs, RunsOn}
use Rattle.lk_step.proofs.Runs.{runs_on, runs_one}
use Rattle.lk_step.specs.Tests.{IsRun, IsYes, NeverNo}
use Rattle.lk_step.specs.Tells.{Tells, Rests}
use Rattle.lk_step.proofs.Following.{run_first, yes_run}
use Rattle.lk_step.proofs.Bases.{basis_more}

pub line_run : (w : Place) (line : Line) (next : Program Bool) (most : ℕ) → IsYes w (line or_else next) most → IsRun w line most
line_run w line next most y = run_first w line (λ o. otherwise o next) most (yes_run y)

-- what is left where the test says nothing
record IsLeft (w : Place) (next : Program Bool) (n : ℕ) : Type 0 where
  cost : ℕ
  runs : Runs w next true cost
  paid : cost ≤ n

is_left : (w : Place) (line : Line) (next : Program Bool) (n : ℕ) → ((v : Option Bool) (m : ℕ) → Runs w line v m → v ≡ None) → Runs w (line or_else next) true n → IsLeft w next n
is_left w line next n none h =
    let on : RunsOn w line (λ o. otherwise o next) true n = runs_on w line (λ o. otherwise o next) true n h in
    let paid : n ≡ on.first + on.second = on.paid in
    record { cost = on.second; runs = subst (λ o. Runs w (otherwise o next) true on.second) (none on.value on.first on.runs) on.then_runs; paid = omega (arith, paid) }

pub line_on : (w : Place) (line : Line) (next : Program Bool) (most : ℕ) → ((v : Option Bool) (m : ℕ) → Runs w line v m → v ≡ None) → IsYes w (line or_else next) most → IsYes w next most
line_on w line next most none y =
    let left : IsLeft w next y.cost = is_left w line next y.cost none y.runs in
    let paid : left.cost ≤ y.cost = left.paid in
    let within : y.cost < most = y.within in
    record { cost = left.cost; runs = left.runs; within = omega (arith, paid, within) }

pub line_none : (w : Place) (c : Contents) (line : Line) (next : Program Bool) (claim : Claim) (r : Row) → ((v : Option Bool) (m : ℕ) → Runs w line v m → v ≡ None) → Rests w c next claim r → Rests w c (line or_else next) claim r
line_none w c line next claim r none rests n h =
    let left : IsLeft w next n = is_left w line next n none h in
    basis_more w c claim left.cost n r left.paid (rests left.cost left.runs)

pub line_some : (w : Place) (c : Contents) (line : Line) (next : Program Bool) (claim : Claim) (r : Row) → Tells w c line claim (Some r) → Rests w c (line or_else next) claim r
line_some w c line next claim r tells n h =
    let on : RunsOn w line (λ o. otherwise o next) true n = runs_on w line (λ o. otherwise o next) true n h in
    let paid : n ≡ on.first + on.second = on.paid in
    basis_more w c claim on.first n r (omega (arith, paid)) (tells on.value on.first on.runs)

-- the whole says yes, so the line does not say no
pub line_never : (w : Place) (line : Line) (next : Program Bool) (most : ℕ) → IsYes w (line or_else next) most → NeverNo w line
line_never w line next most y n h =
    let on : RunsOn w line (λ o. otherwise o next) true y.cost = runs_on w line (λ o. otherwise o next) true y.cost y.runs in
    let value : on.value ≡ Some false = runs_one w line on.value (Some false) on.first n on.runs h in
    let r : Runs w (otherwise (Some false) next) true on.second = subst (λ o. Runs w (otherwise o next) true on.second) value on.then_runs in
    absurd (let e : false ≡ true = r.0 in cc)
