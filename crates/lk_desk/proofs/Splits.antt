-- Split and Join keep the rule.
use Rattle.std.proofs.Common.{◌≡◌, ◌≢◌, ℕ, zero, suc, ◌+◌, ◌<◌, ◌≤◌, Bool, true, false, min, nat_lt, slice_index, refl, sym, ap, ◌∙◌, subst, arith, set, get_or-set_other, get_or-set_same, length-set, inl, inr}
use Rattle.std.specs.Prelude.{◌==◌, if◌then◌else◌, ◌⊎◌, ◌||◌}
use Rattle.std.proofs.lemmas.List.Sums.{sum_by-append}
use Rattle.std.proofs.lemmas.Bool.Decides.{nat_tests}
use Rattle.std.proofs.lemmas.Bool.{cases_lt}
use mathlib.Core.Option.{some}
use lib.ListN.{get_elem?}
use Rattle.atomic_table.proofs.Lists.{set_else}
use Rattle.lk_desk.specs.declared.view.View.{View}
use Rattle.lk_desk.specs.Job.{Job}
use Rattle.lk_desk.specs.Rule.{Desk, IsDesk, IsSeated, claim_word, seat_word, times, spent_view}
use Rattle.lk_desk.specs.Steps.{with_word, asked, after_ask, cut, newcomer, after_cut, both_views, after_join}
use Rattle.lk_desk.proofs.Views.{sum_set, sum_added, sum_two, each_set, each_added, part_le, sum_le}

pub asked_below : (n : ℕ) (v : View) → n < 65536 → asked n v ≡ record v { pending = v.pending + 1 }
asked_below n v lt = let t : nat_lt n 65536 ≡ true = grind (arith, nat_tests) in rw t refl

asked_past : (n : ℕ) (v : View) → 65536 ≤ n → asked n v ≡ record v { refusals = v.refusals + 1 }
asked_past n v le = let t : nat_lt n 65536 ≡ false = grind (arith, nat_tests) in rw t refl

ended_or : (a b : Bool) → a || b ≡ true → (a ≡ true) ⊎ (b ≡ true)
ended_or true b e = inl refl
ended_or false b e = inr e

ended_neither : (a b : Bool) → a || b ≡ false → (a ≡ false) × (b ≡ false)
ended_neither true b e = absurd cc
ended_neither false b e = (refl, e)

some_or : (n : ℕ) → (0 < n) ⊎ (n ≡ 0)
some_or zero = inr refl
some_or (suc n) = inl (omega arith)

noted_of : (job : Job) (n : ℕ) (v : View) → IsSeated job n v → v.refusals ≤ v.seats + v.pending
noted_of job n v fits = elim (some_or v.seats) [
  | inl live ↦ let p = (fits.live live).refusals in omega arith
  | inr none ↦ let p : v.refusals ≡ 0 = ap (λ (u : View). u.refusals) (fits.spent none) in omega arith
]

-- the seat word passes 65,536 by 65,536 at most
pub seats_few : (job : Job) (s : Desk) → IsDesk job s → seat_word s ≤ 131072
seats_few job s kept = let le = sum_le (λ v. v.refusals) (λ v. v.seats + v.pending) s.views (λ i u at. noted_of job (claim_word s) u (kept.each i u at)) in let e = kept.seats in let r = kept.refused in omega arith

-- a seat came from no more seats than were made
pub few_seats : (job : Job) (s : Desk) → IsDesk job s → (id : ℕ) (v : View) → get_elem? s.views id ≡ some v → v.seats ≤ seat_word s
few_seats job s kept id v at = let p = part_le (λ u. u.seats + u.pending) s.views id v at in let e = kept.seats in omega arith

module _ (job : Job) (s : Desk) (kept : IsDesk job s) (id : ℕ) (v : View) (at : get_elem? s.views id ≡ some v) where
  -- the seat word rises by one, and a view is changed
  counted_on : (w : View) → IsSeated job (claim_word s) w → w.overdrawn ≡ v.overdrawn → ((x : ℕ) → times x w ≡ times x v)
      → min (seat_word s) 65536 + w.seats + w.pending ≡ min (seat_word s + 1) 65536 + v.seats + v.pending
      → seat_word s + 1 + min (seat_word s) 65536 + v.refusals ≡ min (seat_word s + 1) 65536 + seat_word s + w.refusals
      → IsDesk job (with_word s 1 (seat_word s + 1) id w)
  counted_on w fits overdrawn drew seats refusals =
      let word : slice_index (set s.words 1 (seat_word s + 1)) 1 ≡ seat_word s + 1 = get_or-set_same s.words 1 (seat_word s + 1) 0 (let l = kept.words in omega arith) in
      let other : (j : ℕ) → j ≢ 1 → slice_index (set s.words 1 (seat_word s + 1)) j ≡ slice_index s.words j = λ j ne. get_or-set_other s.words 1 j (seat_word s + 1) 0 ne in
      let none = other 0 (λ h. omega arith) in
      record {
        words = length-set s.words 1 (seat_word s + 1) ∙ kept.words;
        homes = kept.homes;
        small = kept.small;
        each = rw none (each_set (IsSeated job (claim_word s)) s.views id w kept.each fits);
        once = λ x. rw none (let e = sum_set (times x) s.views id v w at in let o = kept.once x in let t = drew x in omega arith);
        bound = rw none (let e = sum_set (λ u. u.overdrawn) s.views id v w at in let b = kept.bound in omega arith);
        seats = rw word (let e = sum_set (λ u. u.seats + u.pending) s.views id v w at in let p = kept.seats in omega arith);
        refused = rw word (let e = sum_set (λ u. u.refusals) s.views id v w at in let p = kept.refused in omega arith);
        home = λ k k-in e. kept.home k k-in (sym (other (k + 2) (λ h. omega arith)) ∙ e);
      }

  pub ask_keeps : 0 < v.seats → v.refusals ≡ 0 → IsDesk job (after_ask s id v)
  ask_keeps alive clear =
      let live = (kept.each id v at).live alive in
      let n = seat_word s in
      elim (cases_lt n 65536) [
        | inl lt ↦ subst (λ (w : View). IsDesk job (with_word s 1 (n + 1) id w)) (sym (asked_below n v lt))
            (counted_on (record v { pending = v.pending + 1 })
            (record {
              live = λ h. record { same_job = live.same_job; going = live.going; over = live.over; overdrawn = live.overdrawn; refusals = live.refusals };
              spent = λ h. absurd (let bad : v.seats ≡ 0 = h in omega arith);
            })
            refl (λ x. refl) (omega arith) (omega arith))
        | inr le ↦ subst (λ (w : View). IsDesk job (with_word s 1 (n + 1) id w)) (sym (asked_past n v le))
            (counted_on (record v { refusals = v.refusals + 1 })
            (record {
              live = λ h. record { same_job = live.same_job; going = live.going; over = live.over; overdrawn = live.overdrawn; refusals = (let p : v.refusals + 1 ≤ v.seats = omega arith in p) };
              spent = λ h. absurd (let bad : v.seats ≡ 0 = h in omega arith);
            })
            refl (λ x. refl) (omega arith) (omega arith))
      ]

  pub cut_keeps : 0 < v.seats → 0 < v.pending → IsDesk job (after_cut s id v)
  cut_keeps alive pending =
      let live = (kept.each id v at).live alive in
      let w : View = cut v in
      let u : View = newcomer v in
      let P : View → Type 0 = IsSeated job (claim_word s) in
      record {
        words = kept.words;
        homes = kept.homes;
        small = kept.small;
        each = each_added P (set s.views id w) u
            (each_set P s.views id w kept.each (record {
              live = λ h. record { same_job = live.same_job; going = live.going; over = live.over; overdrawn = live.overdrawn; refusals = live.refusals };
              spent = λ h. absurd (let bad : v.seats ≡ 0 = h in omega arith);
            }))
            (record {
              live = λ h. record { same_job = live.same_job; going = λ e. refl; over = λ e. absurd (let bad : false ≡ true = e in cc); overdrawn = omega arith; refusals = omega arith };
              spent = λ h. absurd (let bad : 1 ≡ 0 = h in omega arith);
            });
        once = λ x. (let e = sum_added (times x) s.views id v w u at in let o = kept.once x in let a : times x w ≡ times x v = refl in let b : times x u ≡ 0 = refl in omega arith);
        bound = (let e = sum_added (λ z. z.overdrawn) s.views id v w u at in let b = kept.bound in let a : w.overdrawn ≡ v.overdrawn = refl in let c : u.overdrawn ≡ 0 = refl in omega arith);
        seats = (let e = sum_added (λ z. z.seats + z.pending) s.views id v w u at in let p = kept.seats in let a : w.seats + w.pending + 1 ≡ v.seats + v.pending = omega arith in let c : u.seats + u.pending ≡ 1 = refl in omega arith);
        refused = (let e = sum_added (λ z. z.refusals) s.views id v w u at in let p = kept.refused in let a : w.refusals ≡ v.refusals = refl in let c : u.refusals ≡ 0 = refl in omega arith);
        home = kept.home;
      }

  pub join_keeps : (other : ℕ) (w : View) → 0 < v.seats → 0 < w.seats → other ≢ id → get_elem? s.views other ≡ some w → IsDesk job (after_join s id v other w)
  join_keeps other w alive alive-w apart there =
      let both : View = both_views v w in
      let at-w : get_elem? (set s.views id both) other ≡ some w = set_else s.views id other both apart ∙ there in
      let a = (kept.each id v at).live alive in
      let b = (kept.each other w there).live alive-w in
      let P : View → Type 0 = IsSeated job (claim_word s) in
      record {
        words = kept.words;
        homes = kept.homes;
        small = kept.small;
        each = each_set P (set s.views id both) other spent_view
            (each_set P s.views id both kept.each (record {
              live = λ h. record {
                same_job = a.same_job;
                going = λ e. let n = ended_neither v.ended w.ended e in let p = a.going n.0 in let q = b.going n.1 in omega arith;
                over = λ e. elim (ended_or v.ended w.ended e) [ inl x ↦ a.over x | inr x ↦ b.over x ];
                overdrawn = (let p = a.overdrawn in let q = b.overdrawn in omega arith);
                refusals = (let p = a.refusals in let q = b.refusals in omega arith);
              };
              spent = λ h. absurd (let bad : v.seats + w.seats ≡ 0 = h in omega arith);
            }))
            (record { live = λ h. absurd (let bad : 0 < 0 = h in omega arith); spent = λ h. refl });
        once = λ x. (let e = sum_two (times x) s.views id other v both w spent_view at at-w in let o = kept.once x in let t : times x both ≡ times x v + times x w = sum_by-append (λ y. if y == x then 1 else 0) v.drawn w.drawn in let z : times x spent_view ≡ 0 = refl in omega arith);
        bound = (let e = sum_two (λ z. z.overdrawn) s.views id other v both w spent_view at at-w in let k = kept.bound in omega arith);
        seats = (let e = sum_two (λ z. z.seats + z.pending) s.views id other v both w spent_view at at-w in let k = kept.seats in omega arith);
        refused = (let e = sum_two (λ z. z.refusals) s.views id other v both w spent_view at at-w in let k = kept.refused in omega arith);
        home = kept.home;
      }
