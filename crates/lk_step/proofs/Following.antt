-- What is left of a run once a question of it is answered.
use Rattle.std.proofs.Common.{ℕ, ◌≡◌, ◌+◌, ◌<◌, Bool, true, ap, subst, arith}
use Rattle.lk_tree.specs.Tree.{Tree, Level, sort}
use Rattle.lk_rulebook.specs.Place.{Place}
use Rattle.lk_questions.specs.Query.{Query, AnswerTo}
use Rattle.lk_questions.specs.Program.{Program, ask, ◌>>=◌}
use Rattle.lk_questions.specs.Steps.{as_sort}
use Rattle.lk_step.specs.Rows.{IsAnswered}
use Rattle.lk_step.specs.Runs.{Runs, RunsOn, AreOne}
use Rattle.lk_step.specs.Told.{IsAnsweredWithin}
use Rattle.lk_step.proofs.Runs.{one_answer, runs_on}
use Rattle.lk_step.specs.Tests.{IsRun, IsYes}

-- what is left to run, and to pay
pub record Followed {A : Type 0} (w : Place) (p : Program A) (v : A) (n d : ℕ) : Type 0 where
  pub left : ℕ
  pub runs : Runs w p v left
  pub paid : n ≡ d + left

pub follow : {A : Type 0} (w : Place) (q : Query) (k : AnswerTo q → Program A) (v : A) (n : ℕ) (u : AnswerTo q) (d : ℕ) → Runs w (ask q k) v n → IsAnswered w q u d → Followed w (k u) v n d
follow w q k v n u d h a =
    let one : AreOne h.0 u h.1 d = one_answer w q h.0 u h.1 d h.3 a in
    let cost : h.1 ≡ d = one.cost in
    let paid : n ≡ h.1 + h.2 = h.5 in
    record { left = h.2; runs = subst (λ x. Runs w (k x) v h.2) one.answer h.4; paid = omega (arith, cost, paid) }

pub asks_within : {A : Type 0} (w : Place) (q : Query) (k : AnswerTo q → Program A) (most : ℕ) → IsRun w (ask q k) most → IsAnsweredWithin w q most
asks_within w q k most r =
    let h : Runs w (ask q k) r.value r.cost = r.runs in
    let paid : r.cost ≡ h.1 + h.2 = h.5 in
    let within : r.cost < most = r.within in
    (h.0, h.1, h.3, omega (arith, paid, within))

pub run_on : {A : Type 0} (w : Place) (q : Query) (k : AnswerTo q → Program A) (most : ℕ) (u : AnswerTo q) (d : ℕ) → IsRun w (ask q k) most → IsAnswered w q u d → IsRun w (k u) most
run_on w q k most u d r a =
    let f : Followed w (k u) r.value r.cost d = follow w q k r.value r.cost u d r.runs a in
    let paid : r.cost ≡ d + f.left = f.paid in
    let within : r.cost < most = r.within in
    record { value = r.value; cost = f.left; runs = f.runs; within = omega (arith, paid, within) }

pub run_first : {A B : Type 0} (w : Place) (p : Program A) (k : A → Program B) (most : ℕ) → IsRun w (p >>= k) most → IsRun w p most
run_first w p k most r =
    let on : RunsOn w p k r.value r.cost = runs_on w p k r.value r.cost r.runs in
    let paid : r.cost ≡ on.first + on.second = on.paid in
    let within : r.cost < most = r.within in
    record { value = on.value; cost = on.first; runs = on.runs; within = omega (arith, paid, within) }

pub run_followed : {A : Type 0} {w : Place} {p k : Program A} {most d : ℕ} (r : IsRun w p most) → Followed w k r.value r.cost d → IsRun w k most
run_followed {A} {w} {p} {k} {most} {d} r f =
    let paid : r.cost ≡ d + f.left = f.paid in
    let within : r.cost < most = r.within in
    record { value = r.value; cost = f.left; runs = f.runs; within = omega (arith, paid, within) }

-- what is read as a Sort is one
pub as_sort_is : (w : Place) (S : Tree) (l : Level) (n : ℕ) → Runs w (as_sort S) l n → S ≡ sort l
as_sort_is w (sort m) l n h = ap sort h.0
as_sort_is w S l n h = absurd h

pub yes_run : {w : Place} {p : Program Bool} {most : ℕ} → IsYes w p most → IsRun w p most
yes_run y = record { value = true; cost = y.cost; runs = y.runs; within = y.within }
