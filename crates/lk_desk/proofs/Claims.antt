-- Claim and Load keep the rule, and a view's numbers are below the claim word.
use Rattle.std.proofs.Common.{◌≡◌, ◌≢◌, ℕ, zero, suc, ◌+◌, ◌<◌, ◌≤◌, true, false, min, [], ◌∷◌, ◌++◌, All, sum_by, nat_lt, slice_index, refl, sym, ap, ◌∙◌, subst, arith, set, get_or-set_other, get_or-set_same, length-set, inl, inr, zero-add}
use Rattle.std.specs.Prelude.{◌==◌, if◌then◌else◌, ◌⊎◌}
use Rattle.std.proofs.lemmas.List.Sums.{sum_by-append}
use Rattle.std.proofs.lemmas.Bool.Decides.{nat_tests}
use Rattle.std.proofs.lemmas.Bool.{cases_lt}
use mathlib.Core.Option.{some}
use lib.ListN.{get_elem?}
use Rattle.lk_desk.specs.declared.view.View.{View}
use Rattle.lk_desk.specs.Job.{Job, units_of}
use Rattle.lk_desk.specs.Rule.{Desk, IsDesk, IsSeated, claim_word, seat_word, times, once_below}
use Rattle.lk_desk.specs.Steps.{with_word, claimed, after_claim}
use Rattle.lk_desk.proofs.Views.{sum_set, each_set, part_le, counted, sum_le}

pub times-draw : (x n : ℕ) (v : View) → times x (record v { drawn = v.drawn ++ n ∷ [] }) ≡ times x v + (if n == x then 1 else 0)
times-draw x n v = sum_by-append (λ y. if y == x then 1 else 0) v.drawn (n ∷ []) ∙ ap (λ k. times x v + k) (zero-add (if n == x then 1 else 0))

once_more : (x n units : ℕ) → n < units → once_below x (min (n + 1) units) ≡ once_below x (min n units) + (if n == x then 1 else 0)
once_more x n units lt = grind (arith, nat_tests)

once_same : (x n units : ℕ) → units ≤ n → once_below x (min (n + 1) units) ≡ once_below x (min n units)
once_same x n units le = let e : min (n + 1) units ≡ min n units = omega arith in ap (once_below x) e

once_in : (x n : ℕ) → 1 ≤ once_below x n → x < n
once_in x n one = grind (arith, nat_tests)

pub after_below : (n : ℕ) (v : View) → n < units_of v.job → claimed n v ≡ record v { drawn = v.drawn ++ n ∷ [] }
after_below n v lt = let t : nat_lt n (units_of v.job) ≡ true = grind (arith, nat_tests) in rw t refl

pub after_past : (n : ℕ) (v : View) → units_of v.job ≤ n → claimed n v ≡ record v { overdrawn = v.overdrawn + 1; ended = true }
after_past n v le = let t : nat_lt n (units_of v.job) ≡ false = grind (arith, nat_tests) in rw t refl

-- the claim word may rise
pub later : (job : Job) (n m : ℕ) (v : View) → n ≤ m → IsSeated job n v → IsSeated job m v
later job n m v le fits = record {
  live = λ some.
      let l = fits.live some in record {
        same_job = l.same_job;
        going = l.going;
        over = λ e. let o = l.over e in omega arith;
        overdrawn = l.overdrawn;
        refusals = l.refusals;
      };
  spent = fits.spent;
}

-- each number in a view is below the claim word, and below the units
pub below : (job : Job) (s : Desk) → IsDesk job s → (id : ℕ) (v : View) → get_elem? s.views id ≡ some v → All (λ x. x < min (claim_word s) (units_of job)) v.drawn
below job s kept id v at = counted (λ x. x < min (claim_word s) (units_of job)) v.drawn (λ x one. once_in x _ (let p = part_le (times x) s.views id v at in let o = kept.once x in omega (arith, one)))

-- no seat drew more past the units than the seats that it came from
pub past_few : (job : Job) (s : Desk) → IsDesk job s → sum_by (λ v. v.overdrawn) s.views ≤ min (seat_word s) 65536
past_few job s kept =
    let each : (id : ℕ) (v : View) → get_elem? s.views id ≡ some v → v.overdrawn ≤ v.seats + v.pending = λ id v at. past_of v (kept.each id v at) in
    let le = sum_le (λ v. v.overdrawn) (λ v. v.seats + v.pending) s.views each in
    let e = kept.seats in omega arith
  where
    some_or : (n : ℕ) → (0 < n) ⊎ (n ≡ 0)
    some_or zero = inr refl
    some_or (suc n) = inl (omega arith)

    past_of : (v : View) → IsSeated job (claim_word s) v → v.overdrawn ≤ v.seats + v.pending
    past_of v fits = elim (some_or v.seats) [
      | inl live ↦ let p = (fits.live live).overdrawn in omega arith
      | inr none ↦ let p : v.overdrawn ≡ 0 = ap (λ (u : View). u.overdrawn) (fits.spent none) in omega arith
    ]

-- the claim word passes the units by 65,536 at most
pub claims_few : (job : Job) (s : Desk) → IsDesk job s → claim_word s ≤ units_of job + 65536
claims_few job s kept = let b = kept.bound in let p = past_few job s kept in omega arith

module _ (job : Job) (s : Desk) (kept : IsDesk job s) (id : ℕ) (v : View) (at : get_elem? s.views id ≡ some v) where
  -- the claim word rises by one, and a view is changed
  risen : (w : View) → IsSeated job (claim_word s + 1) w → w.seats + w.pending ≡ v.seats + v.pending → w.refusals ≡ v.refusals
      → claim_word s + 1 + v.overdrawn ≤ units_of job + sum_by (λ u. u.overdrawn) s.views + w.overdrawn
      → ((x : ℕ) → times x w + once_below x (min (claim_word s) (units_of job)) ≡ times x v + once_below x (min (claim_word s + 1) (units_of job)))
      → IsDesk job (with_word s 0 (claim_word s + 1) id w)
  risen w fits seats refusals bound drew =
      let word : slice_index (set s.words 0 (claim_word s + 1)) 0 ≡ claim_word s + 1 = get_or-set_same s.words 0 (claim_word s + 1) 0 (let l = kept.words in omega arith) in
      let other : (j : ℕ) → j ≢ 0 → slice_index (set s.words 0 (claim_word s + 1)) j ≡ slice_index s.words j = λ j ne. get_or-set_other s.words 0 j (claim_word s + 1) 0 ne in
      let one = other 1 (λ h. omega arith) in
      record {
        words = length-set s.words 0 (claim_word s + 1) ∙ kept.words;
        homes = kept.homes;
        small = kept.small;
        each = rw word (each_set (IsSeated job (claim_word s + 1)) s.views id w (λ i u there. later job (claim_word s) (claim_word s + 1) u (omega arith) (kept.each i u there)) fits);
        once = λ x. rw word (let e = sum_set (times x) s.views id v w at in let o = kept.once x in let t = drew x in omega arith);
        bound = rw word (let e = sum_set (λ u. u.overdrawn) s.views id v w at in omega arith);
        seats = rw one (let e = sum_set (λ u. u.seats + u.pending) s.views id v w at in let p = kept.seats in omega arith);
        refused = rw one (let e = sum_set (λ u. u.refusals) s.views id v w at in let p = kept.refused in omega arith);
        home = λ k k-in e. kept.home k k-in (sym (other (k + 2) (λ h. omega arith)) ∙ e);
      }

  pub claim_keeps : 0 < v.seats → v.ended ≡ false → IsDesk job (after_claim s id v)
  claim_keeps alive going =
      let live = (kept.each id v at).live alive in
      let n = claim_word s in
      let same : units_of v.job ≡ units_of job = ap units_of live.same_job in
      let none = live.going going in
      let b = kept.bound in
      elim (cases_lt n (units_of job)) [
        | inl lt ↦ subst (λ (w : View). IsDesk job (with_word s 0 (n + 1) id w)) (sym (after_below n v (omega arith)))
            (risen (record v { drawn = v.drawn ++ n ∷ [] })
            (record {
              live = λ h. record { same_job = live.same_job; going = live.going; over = λ e. let o = live.over e in omega arith; overdrawn = live.overdrawn; refusals = live.refusals };
              spent = λ h. absurd (let bad : v.seats ≡ 0 = h in omega arith);
            })
            refl refl (omega arith) (λ x. let t = times-draw x n v in let o = once_more x n (units_of job) lt in omega arith))
        | inr le ↦ subst (λ (w : View). IsDesk job (with_word s 0 (n + 1) id w)) (sym (after_past n v (omega arith)))
            (risen (record v { overdrawn = v.overdrawn + 1; ended = true })
            (record {
              live = λ h. record { same_job = live.same_job; going = λ e. absurd (let bad : true ≡ false = e in cc); over = λ e. omega arith; overdrawn = (let p : v.overdrawn + 1 ≤ v.seats = omega arith in p); refusals = live.refusals };
              spent = λ h. absurd (let bad : v.seats ≡ 0 = h in omega arith);
            })
            refl refl (omega arith) (λ x. ap (λ k. times x v + k) (sym (once_same x n (units_of job) le))))
      ]
