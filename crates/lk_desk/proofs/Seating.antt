-- Facts on views that the calls of a desk need.
use Rattle.std.proofs.Common.{◌≡◌, ℕ, ◌+◌, ◌-◌, ◌<◌, Bool, true, false, nat_lt, refl, ap, ◌∙◌, arith}
use Rattle.std.proofs.lemmas.Bool.Decides.{nat_tests}
use Rattle.lk_desk.specs.declared.view.View.{View}
use Rattle.lk_desk.specs.Steps.{asked, cut, newcomer}

pub ended_same : (v : View) → v.ended ≡ true → v ≡ record v { overdrawn = v.overdrawn; ended = true }
ended_same v e = ap (λ (b : Bool). record v { ended = b }) e

pub noted_none : (b : Bool) (n : ℕ) → b ≡ false → b ≡ nat_lt 0 n → n ≡ 0
noted_none b n e d = grind (arith, nat_tests)

pub noted_some : (b : Bool) (n : ℕ) → b ≡ true → b ≡ nat_lt 0 n → 0 < n
noted_some b n e d = grind (arith, nat_tests)

-- a seat that is counted, and then comes, leaves the view as it was
pub asked_cut : (v w : View) (found : ℕ) → found < 65536 → w ≡ asked found v → cut w ≡ v
asked_cut v w found lt e =
    let t : nat_lt found 65536 ≡ true = grind (arith, nat_tests) in
    let f : asked found v ≡ record v { pending = v.pending + 1 } = rw t refl in
    let n : v.pending + 1 - 1 ≡ v.pending = omega arith in
    ap cut (e ∙ f) ∙ ap (λ (k : ℕ). record v { pending = k }) n

pub asked_coming : (v w : View) (found : ℕ) → found < 65536 → w ≡ asked found v → 0 < w.pending
asked_coming v w found lt e =
    let t : nat_lt found 65536 ≡ true = grind (arith, nat_tests) in
    let f : asked found v ≡ record v { pending = v.pending + 1 } = rw t refl in
    let g : w.pending ≡ v.pending + 1 = ap (λ (u : View). u.pending) (e ∙ f) in
    omega arith

pub asked_new : (v w : View) (found : ℕ) → found < 65536 → w ≡ asked found v → newcomer w ≡ newcomer v
asked_new v w found lt e =
    let t : nat_lt found 65536 ≡ true = grind (arith, nat_tests) in
    let f : asked found v ≡ record v { pending = v.pending + 1 } = rw t refl in
    ap newcomer (e ∙ f)

pub asked_seats : (v w : View) (found : ℕ) → found < 65536 → w ≡ asked found v → w.seats ≡ v.seats
asked_seats v w found lt e =
    let t : nat_lt found 65536 ≡ true = grind (arith, nat_tests) in
    let f : asked found v ≡ record v { pending = v.pending + 1 } = rw t refl in
    ap (λ (u : View). u.seats) (e ∙ f)
