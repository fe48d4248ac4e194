-- A seat that came from all seats made, and has ended, drew each unit, once.
use Rattle.std.proofs.Common.{◌≡◌, ℕ, zero, suc, ◌+◌, ◌<◌, ◌≤◌, true, min, List, sum_by, refl, ap, ◌∙◌, subst, arith, set, inl, inr}
use Rattle.std.specs.Prelude.{◌⊎◌}
use mathlib.Core.Option.{some}
use lib.ListN.{get_elem?}
use Rattle.atomic_table.proofs.Lists.{at_set}
use Rattle.lk_desk.specs.declared.view.View.{View}
use Rattle.lk_desk.specs.Job.{Job, units_of}
use Rattle.lk_desk.specs.Rule.{Desk, IsDesk, claim_word, seat_word, times, once_below, spent_view}
use Rattle.lk_desk.proofs.Views.{sum_set, part_le, sum_le}

some_or : (n : ℕ) → (0 < n) ⊎ (n ≡ 0)
some_or zero = inr refl
some_or (suc n) = inl (omega arith)

-- where the view itself is put away, nothing is left
module _ (job : Job) (s : Desk) (kept : IsDesk job s) (id : ℕ) (v : View) (at : get_elem? s.views id ≡ some v) (all : v.seats ≡ seat_word s) where
  away : List View
  away = set s.views id spent_view

  none_seated : sum_by (λ u. u.seats + u.pending) away ≡ 0
  unfolding away
  none_seated = let e = sum_set (λ u. u.seats + u.pending) s.views id v spent_view at in let k = kept.seats in let p = part_le (λ u. u.seats + u.pending) s.views id v at in omega arith

  each_spent : (x i : ℕ) (u : View) → get_elem? away i ≡ some u → times x u ≤ u.seats + u.pending
  unfolding away
  each_spent x i u there =
      let p : u.seats + u.pending ≤ sum_by (λ z. z.seats + z.pending) away = part_le (λ z. z.seats + z.pending) away i u there in
      let z = none_seated in
      let none : u.seats ≡ 0 = omega arith in
      elim (at_set s.views id i spent_view u there) [
        | inl h ↦ subst (λ (y : View). times x y ≤ y.seats + y.pending) h.1 (omega arith)
        | inr h ↦ let e : times x u ≡ 0 = ap (times x) ((kept.each i u h.1).spent none) in omega arith
      ]

  none_drawn : (x : ℕ) → sum_by (times x) away ≡ 0
  none_drawn x = let l = sum_le (times x) (λ u. u.seats + u.pending) away (each_spent x) in let z = none_seated in omega arith

  pub whole_alone : (x : ℕ) → times x v ≡ once_below x (min (claim_word s) (units_of job))
  unfolding away
  whole_alone x = let e = sum_set (times x) s.views id v spent_view at in let n : sum_by (times x) away ≡ 0 = none_drawn x in let o = kept.once x in let z : times x spent_view ≡ 0 = refl in omega arith

  pub whole : 0 < v.seats → v.ended ≡ true → (x : ℕ) → times x v ≡ once_below x (units_of v.job)
  whole alive ended x =
      let live = (kept.each id v at).live alive in
      let over = live.over ended in
      let m : min (claim_word s) (units_of job) ≡ units_of v.job = omega (arith, ap units_of live.same_job) in
      whole_alone x ∙ ap (once_below x) m
