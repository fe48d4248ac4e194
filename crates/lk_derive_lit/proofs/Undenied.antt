-- Tests that are not denied, one behind the other.
use Rattle.std.proofs.Common.{ℕ, ◌≡◌, ◌+◌, ◌<◌, ◌≤◌, Bool, false, Option, Some, None, sym, ◌∙◌, subst, arith}
use Rattle.std.specs.Prelude.{IfOk, Result, Ok, Err}
use Rattle.lk_tree.specs.Tree.{Tree}
use Rattle.lk_rulebook.specs.Place.{Place}
use Rattle.lk_rulebook.specs.Claims.{Claim, equals}
use Rattle.lk_questions.specs.Program.{done}
use Rattle.lk_questions.specs.Pairs.{Line, unless, ◌or_line◌}
use Rattle.lk_store.specs.declared.memory.NoMemory.{NoMemory}
use Rattle.lk_store.specs.Contents.{Contents}
use Rattle.lk_step.specs.declared.step.Row.{Row}
use Rattle.lk_step.specs.Runs.{Runs, RunsOn, AreOne}
use Rattle.lk_step.specs.Tests.{IsRun, NeverNo}
use Rattle.lk_step.specs.Tells.{TellsOf, Tells}
use Rattle.lk_step.proofs.Bases.{basis_more}
use Rattle.lk_step.proofs.Driven.{one_run}
use Rattle.lk_step.proofs.Runs.{runs_on}
use Rattle.lk_derive_lit.specs.Undenied.{IsUndenied, NeverDenies}

pub undenied_of : (w : Place) (line : Line) (most : ℕ) → IsRun w line most → NeverNo w line → IsUndenied w line most
undenied_of w line most r never =
    record { value = r.value; cost = r.cost; runs = r.runs; within = r.within; undenied = λ e. never r.cost (subst (λ v. Runs w line v r.cost) e r.runs) }

pub undenied_run : (w : Place) (line : Line) (most : ℕ) → IsUndenied w line most → (v : Option Bool) (n : ℕ) → Runs w line v n → v ≡ Some false → ⊥
undenied_run w line most u v n h e =
    let one : AreOne v u.value n u.cost = one_run w line v u.value n u.cost h u.runs in
    u.undenied (sym one.answer ∙ e)

pub undenied_is_run : (w : Place) (line : Line) (most : ℕ) → IsUndenied w line most → IsRun w line most
undenied_is_run w line most u = record { value = u.value; cost = u.cost; runs = u.runs; within = u.within }

pub undenied_first : (w : Place) (p q : Line) (most : ℕ) → IsUndenied w (p or_line q) most → IsUndenied w p most
undenied_first w p q most u =
    let on : RunsOn w p (λ o. unless o q) u.value u.cost = runs_on w p (λ o. unless o q) u.value u.cost u.runs in
    let paid : u.cost ≡ on.first + on.second = on.paid in
    let within : u.cost < most = u.within in
    record { value = on.value; cost = on.first; runs = on.runs; within = omega (arith, paid, within); undenied = λ e. u.undenied (no (subst (λ o. Runs w (unless o q) u.value on.second) e on.then_runs)) }
  where
    no : {v : Option Bool} {n : ℕ} → Runs w (done (Some false)) v n → v ≡ Some false
    no r = sym r.0

pub undenied_second : (w : Place) (p q : Line) (most : ℕ) → ((v : Option Bool) (n : ℕ) → Runs w p v n → v ≡ None) → IsUndenied w (p or_line q) most → IsUndenied w q most
undenied_second w p q most none u =
    let on : RunsOn w p (λ o. unless o q) u.value u.cost = runs_on w p (λ o. unless o q) u.value u.cost u.runs in
    let paid : u.cost ≡ on.first + on.second = on.paid in
    let within : u.cost < most = u.within in
    record { value = u.value; cost = on.second; runs = subst (λ o. Runs w (unless o q) u.value on.second) (none on.value on.first on.runs) on.then_runs; within = omega (arith, paid, within); undenied = u.undenied }

tells_more : (w : Place) (c : Contents) (claim : Claim) (n m : ℕ) (says : Option Bool) (r : Option Row) → n ≤ m → TellsOf w c claim n says r → TellsOf w c claim m says r
tells_more w c claim n m says None h t = t
tells_more w c claim n m says (Some r) h t = basis_more w c claim n m r h t

pub tells_first : (w : Place) (c : Contents) (p q : Line) (claim : Claim) (r : Row) → Tells w c p claim (Some r) → Tells w c (p or_line q) claim (Some r)
tells_first w c p q claim r t says n h =
    let on : RunsOn w p (λ o. unless o q) says n = runs_on w p (λ o. unless o q) says n h in
    let paid : n ≡ on.first + on.second = on.paid in
    basis_more w c claim on.first n r (omega (arith, paid)) (t on.value on.first on.runs)

pub tells_second : (w : Place) (c : Contents) (p q : Line) (claim : Claim) (r : Option Row) → ((v : Option Bool) (n : ℕ) → Runs w p v n → v ≡ None) → Tells w c q claim r → Tells w c (p or_line q) claim r
tells_second w c p q claim r none t says n h =
    let on : RunsOn w p (λ o. unless o q) says n = runs_on w p (λ o. unless o q) says n h in
    let paid : n ≡ on.first + on.second = on.paid in
    tells_more w c claim on.second n says r (omega (arith, paid)) (t says on.second (subst (λ o. Runs w (unless o q) says on.second) (none on.value on.first on.runs) on.then_runs))

pub never_denies : (w : Place) (line : Line) (most : ℕ) → IsUndenied w line most → NeverDenies w line
never_denies w line most u = record { never = undenied_run w line most u }

-- what is told by the test behind one that says nothing, at a place of another name
pub tells_behind : (w w' : Place) (c : Contents) (p : Line) (q : Tree → Tree → Line) (x y x' y' : Tree) (result : Result (Option Row) NoMemory) → w' ≡ w → x' ≡ x → y' ≡ y → ((v : Option Bool) (n : ℕ) → Runs w p v n → v ≡ None) →
    IfOk result (Tells w' c (q x' y') (equals x' y')) → IfOk result (Tells w c (p or_line q x y) (equals x y))
tells_behind w w' c p q x y x' y' (Err e) ew ex ey none h = tt
tells_behind w w' c p q x y x' y' (Ok r) ew ex ey none h =
    tells_second w c p (q x y) (equals x y) r none
    (subst (λ z. Tells z c (q x y) (equals x y) r) ew (subst (λ z. Tells w' c (q z y) (equals z y) r) ex (subst (λ z. Tells w' c (q x' z) (equals x' z) r) ey h)))
