-- Facts on views that `cut` needs.
use Rattle.std.proofs.Common.{◌≡◌, ℕ, ◌+◌, ◌-◌, ◌<◌, ◌≤◌, ap, ◌∙◌, arith}
use Rattle.std.proofs.lemmas.Bool.Decides.{nat_tests}
use Rattle.lk_session.specs.declared.view.View.{View}
use Rattle.lk_session.specs.Rule.{once_below}
use Rattle.lk_session.specs.Steps.{asked, cut}
use Rattle.lk_session.proofs.Passes.{asked_below, asked_past}

-- a pass that is counted, and then comes, leaves the view as it was
pub asked_cut : (v w : View) (found : ℕ) → found < 65536 → w ≡ asked found v → cut w ≡ v
asked_cut v w found lt e =
    let n : v.pending + 1 - 1 ≡ v.pending = omega arith in
    ap cut (e ∙ asked_below found v lt) ∙ ap (λ (k : ℕ). record v { pending = k }) n

pub asked_is : (v w : View) (found : ℕ) → found < 65536 → w ≡ asked found v → w ≡ record v { pending = v.pending + 1 }
asked_is v w found lt e = e ∙ asked_below found v lt

pub asked_refused : (v w : View) (found : ℕ) → 65536 ≤ found → v.refusals ≡ 0 → w ≡ asked found v → w ≡ record v { refusals = 1 }
asked_refused v w found le clear e = e ∙ (asked_past found v le ∙ ap (λ (k : ℕ). record v { refusals = k + 1 }) clear)

pub once_one : (x n : ℕ) → once_below x n ≤ 1
once_one x n = grind (arith, nat_tests)

pub once_not : (n : ℕ) → once_below n n ≡ 0
once_not n = grind (arith, nat_tests)
