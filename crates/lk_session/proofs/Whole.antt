-- A pass that came from all passes made has each place, once.
use Rattle.std.proofs.Common.{◌≡◌, ℕ, ◌+◌, ◌≤◌, true, List, sum_by, refl, ap, subst, arith, set, inl, inr}
use mathlib.Core.Option.{some}
use lib.ListN.{get_elem?}
use Rattle.atomic_table.proofs.Lists.{at_set}
use Rattle.lk_session.specs.declared.view.View.{View}
use Rattle.lk_session.specs.Rule.{Session, IsSession, call_word, pass_word, times, once_below, spent_view}
use Rattle.lk_session.proofs.Views.{sum_set, part_le, sum_le}
use Rattle.lk_session.proofs.Calls.{apart}

-- where the view itself is put away, nothing is left
module _ (s : Session) (kept : IsSession s) (id : ℕ) (v : View) (at : get_elem? s.views id ≡ some v) (book : v.keeps ≡ true) (all : v.passes ≡ pass_word s) where
  away : List View
  away = set s.views id spent_view

  none_left : sum_by (λ u. u.passes + u.pending) away ≡ 0
  unfolding away
  none_left = let e = sum_set (λ u. u.passes + u.pending) s.views id v spent_view at in let k = kept.passes in let p = part_le (λ u. u.passes + u.pending) s.views id v at in omega arith

  each_spent : (x i : ℕ) (u : View) → get_elem? away i ≡ some u → times x u ≤ u.passes + u.pending
  unfolding away
  each_spent x i u there =
      let p : u.passes + u.pending ≤ sum_by (λ z. z.passes + z.pending) away = part_le (λ z. z.passes + z.pending) away i u there in
      let z = none_left in
      let none : u.passes ≡ 0 = omega arith in
      elim (at_set s.views id i spent_view u there) [
        | inl h ↦ subst (λ (y : View). times x y ≤ y.passes + y.pending) h.1 (omega arith)
        | inr h ↦ let e : times x u ≡ 0 = ap (times x) ((kept.each i u h.1).spent (apart s kept id v at book i u h.0 h.1) none) in omega arith
      ]

  none_own : (x : ℕ) → sum_by (times x) away ≡ 0
  none_own x = let l = sum_le (times x) (λ u. u.passes + u.pending) away (each_spent x) in let z = none_left in omega arith

  pub whole : (x : ℕ) → times x v ≡ once_below x (call_word s)
  unfolding away
  whole x = let e = sum_set (times x) s.views id v spent_view at in let n : sum_by (times x) away ≡ 0 = none_own x in let o = kept.once x in let z : times x spent_view ≡ 0 = refl in omega arith
