-- Take and Give keep the rule.
use Rattle.std.proofs.Common.{◌≡◌, ◌≢◌, ℕ, ◌+◌, ◌<◌, List, length, slice_index, Some, refl, sym, ◌∙◌, subst, arith, set, get_or-set_other, get_or-set_same, length-set, inl, inr}
use Rattle.std.proofs.lemmas.Bool.{cases_eq}
use mathlib.Core.Option.{Option, some, none}
use lib.ListN.{get_elem?}
use Rattle.atomic_table.proofs.Lists.{set_here, set_else}
use Rattle.lk_desk.specs.declared.view.View.{View}
use Rattle.lk_desk.specs.declared.shard.Shard.{Shard}
use Rattle.lk_desk.specs.Job.{Job}
use Rattle.lk_desk.specs.Truth.{AreTrue, entries_of}
use Rattle.lk_desk.specs.Rule.{Slot, Desk, IsDesk, IsSeated, claim_word, times}
use Rattle.lk_desk.specs.Steps.{saw, gave, missed, after_miss, after_take, after_give}
use Rattle.lk_desk.proofs.Views.{sum_set, each_set}

module _ (job : Job) (s : Desk) (kept : IsDesk job s) (id : ℕ) (v : View) (at : get_elem? s.views id ≡ some v) (k : ℕ) (k-in : k < 64) where
  -- a shard's word and the homes change, and of a view the outs alone
  moved : (n : ℕ) (homes : List (Option Slot)) (w : View) → length homes ≡ 64 → (0 < w.seats → IsSeated job (claim_word s) v → IsSeated job (claim_word s) w)
      → 0 < w.seats → w.overdrawn ≡ v.overdrawn → w.refusals ≡ v.refusals → w.seats + w.pending ≡ v.seats + v.pending → ((x : ℕ) → times x w ≡ times x v)
      → ((j : ℕ) → j < 64 → slice_index (set s.words (k + 2) n) (j + 2) ≡ 0 → (x : Shard) × (get_elem? homes j ≡ some (some (Some x))) × AreTrue job (entries_of x))
      → IsDesk job (record { words = set s.words (k + 2) n; homes = homes; views = set s.views id w })
  moved n homes w len fits alive overdrawn refusals seats drew home =
      let none-of : slice_index (set s.words (k + 2) n) 0 ≡ slice_index s.words 0 = get_or-set_other s.words (k + 2) 0 n 0 (λ h. omega arith) in
      let one-of : slice_index (set s.words (k + 2) n) 1 ≡ slice_index s.words 1 = get_or-set_other s.words (k + 2) 1 n 0 (λ h. omega arith) in
      record {
        words = length-set s.words (k + 2) n ∙ kept.words;
        homes = len;
        small = kept.small;
        each = rw none-of (each_set (IsSeated job (claim_word s)) s.views id w kept.each (fits alive (kept.each id v at)));
        once = λ x. rw none-of (let e = sum_set (times x) s.views id v w at in let o = kept.once x in let t = drew x in omega arith);
        bound = rw none-of (let e = sum_set (λ u. u.overdrawn) s.views id v w at in let b = kept.bound in omega arith);
        seats = rw one-of (let e = sum_set (λ u. u.seats + u.pending) s.views id v w at in let p = kept.seats in omega arith);
        refused = rw one-of (let e = sum_set (λ u. u.refusals) s.views id v w at in let p = kept.refused in omega arith);
        home = home;
      }

  word-else : (n j : ℕ) → j ≢ k → slice_index (set s.words (k + 2) n) (j + 2) ≡ 0 → slice_index s.words (j + 2) ≡ 0
  word-else n j ne e = sym (get_or-set_other s.words (k + 2) (j + 2) n 0 (λ h. ne (omega arith))) ∙ e

  word-here : (n : ℕ) → slice_index (set s.words (k + 2) n) (k + 2) ≡ n
  word-here n = get_or-set_same s.words (k + 2) n 0 (let l = kept.words in omega arith)

  -- the word is 1, so that nothing is said of the shard
  out : (homes : List (Option Slot)) → ((j : ℕ) → j ≢ k → get_elem? homes j ≡ get_elem? s.homes j) → (j : ℕ) → j < 64 → slice_index (set s.words (k + 2) 1) (j + 2) ≡ 0
      → (x : Shard) × (get_elem? homes j ≡ some (some (Some x))) × AreTrue job (entries_of x)
  out homes else j j-in e = elim (cases_eq j k) [
    | inl h ↦ absurd (let one = word-here 1 in let zero-at : slice_index (set s.words (k + 2) 1) (k + 2) ≡ 0 = subst (λ (i : ℕ). slice_index (set s.words (k + 2) 1) (i + 2) ≡ 0) h e in omega arith)
    | inr ne ↦ let r = kept.home j j-in (word-else 1 j ne e) in (r.0, else j ne ∙ r.1, r.2)
  ]

  more_outs : 0 < v.seats → IsSeated job (claim_word s) v → IsSeated job (claim_word s) (missed v)
  more_outs alive fits =
      let live = fits.live alive in record {
        live = λ h. record { same_job = live.same_job; going = live.going; over = live.over; overdrawn = live.overdrawn; refusals = live.refusals };
        spent = λ h. absurd (let bad : v.seats ≡ 0 = h in omega arith);
      }

  pub miss_keeps : 0 < v.seats → IsDesk job (after_miss s id k v)
  miss_keeps alive = moved 1 s.homes (missed v) kept.homes more_outs alive refl refl refl (λ x. refl) (out s.homes (λ j ne. refl))

  more_seen : (x : Shard) → 0 < v.seats → IsSeated job (claim_word s) v → IsSeated job (claim_word s) (saw k x v)
  more_seen x alive fits =
      let live = fits.live alive in record {
        live = λ h. record { same_job = live.same_job; going = live.going; over = live.over; overdrawn = live.overdrawn; refusals = live.refusals };
        spent = λ h. absurd (let bad : v.seats ≡ 0 = h in omega arith);
      }

  pub take_keeps : (x : Shard) → 0 < v.seats → IsDesk job (after_take s id k x v)
  take_keeps x alive = moved 1 (set s.homes k none) (saw k x v) (length-set s.homes k none ∙ kept.homes) (more_seen x) alive refl refl refl (λ y. refl) (out (set s.homes k none) (λ j ne. set_else s.homes k j none ne))

  more_given : (x : Shard) → 0 < v.seats → IsSeated job (claim_word s) v → IsSeated job (claim_word s) (gave (Some (k, x)) v)
  more_given x alive fits =
      let live = fits.live alive in record {
        live = λ h. record { same_job = live.same_job; going = live.going; over = live.over; overdrawn = live.overdrawn; refusals = live.refusals };
        spent = λ h. absurd (let bad : v.seats ≡ 0 = h in omega arith);
      }

  pub give_keeps : (x : Shard) → 0 < v.seats → AreTrue v.job (entries_of x) → IsDesk job (after_give s id k x v)
  give_keeps x alive true-of =
      let same = ((kept.each id v at).live alive).same_job in
      let true-here : AreTrue job (entries_of x) = subst (λ (j : Job). AreTrue j (entries_of x)) same true-of in
      let homes = set s.homes k (some (Some x)) in
      moved 0 homes (gave (Some (k, x)) v) (length-set s.homes k (some (Some x)) ∙ kept.homes) (more_given x) alive refl refl refl (λ y. refl) (λ j j-in e. elim (cases_eq j k) [
        | inl is ↦ (x, subst (λ (i : ℕ). get_elem? homes i ≡ some (some (Some x))) (sym is) (set_here s.homes k (some (Some x)) (let l = kept.homes in omega arith)), true-here)
        | inr ne ↦ let r = kept.home j j-in (word-else 0 j ne e) in (r.0, set_else s.homes k j (some (Some x)) ne ∙ r.1, r.2)
      ])
