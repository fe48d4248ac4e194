-- Each step keeps what holds of the desk, and so does each run.
use Rattle.std.proofs.Common.{◌≡◌, ℕ, suc, ◌+◌, ◌^◌, ◌<◌, List, [], ◌∷◌, slice_index, get_or, get_or-set_other, get_or-set_same, length-set, set, Some, None, refl, sym, ap, ◌∙◌, subst, arith, inl, inr}
use Rattle.std.specs.Prelude.{replicate}
use Rattle.std.specs.declared.option.Option.{Option}
use Rattle.std.proofs.lemmas.List.{length-replicate, get_or-replicate}
use Rattle.std.proofs.lemmas.Bool.{cases_eq}
use mathlib.Core.Option.{some}
use lib.ListN.{get_elem?}
use Rattle.atomic_table.proofs.Lists.{set_here}
use Rattle.lk_desk.specs.declared.view.View.{View}
use Rattle.lk_desk.specs.Job.{Job, units_of}
use Rattle.lk_desk.specs.declared.shard.Shard.{Shard}
use Rattle.lk_desk.specs.Rule.{Desk, IsDesk, seat_word, claim_word}
use Rattle.lk_desk.specs.Steps.{asked, after_ask}
use Rattle.lk_desk.specs.Machine.{Machine, Move, claim, load, take, give, split, join, in_hand, hand_word, Goes, Runs, Opens, Holds, Taken, Cut}
use Rattle.lk_desk.proofs.Views.{there}
use Rattle.lk_desk.proofs.Claims.{claim_keeps}
use Rattle.lk_desk.proofs.Splits.{ask_keeps, cut_keeps, join_keeps, asked_below}
use Rattle.lk_desk.proofs.Exchanges.{miss_keeps, take_keeps, give_keeps}
use Rattle.lk_desk.proofs.Opening.{opened}

-- a word below the shards' changes
low_word : (ws : List ℕ) (i n k : ℕ) → i < 2 → slice_index (set ws i n) (k + 2) ≡ slice_index ws (k + 2)
low_word ws i n k lt = get_or-set_other ws i (k + 2) n 0 (λ h. omega arith)

module _ (job : Job) (c : Machine) (h : Holds job c) where
  -- the hands stay, and so do the shards' words
  stays : (t : Desk) → IsDesk job t → ((k : ℕ) → slice_index t.words (k + 2) ≡ slice_index c.table.words (k + 2)) → Holds job (record { table = t; hands = c.hands })
  stays t kept same = record { kept = kept; hands = h.hands; out = λ k lt. same k ∙ h.out k lt }

  -- a shard's word and its hand change
  moves : (t : Desk) (k n : ℕ) (x : Option (ℕ × Shard)) → k < 64 → IsDesk job t → t.words ≡ set c.table.words (k + 2) n → n ≡ hand_word x → Holds job (record { table = t; hands = set c.hands k x })
  moves t k n x k-in kept words is = record {
    kept = kept;
    hands = length-set c.hands k x ∙ h.hands;
    out = λ j j-in. elim (cases_eq j k) [
      | inl e ↦
          let P : ℕ → Type 0 = λ i. slice_index t.words (i + 2) ≡ hand_word (get_or (set c.hands k x) i None) in
          subst P (sym e) (rw words (get_or-set_same c.table.words (k + 2) n 0 (let l = h.kept.words in omega arith) ∙ (is ∙ ap hand_word (sym (get_or-set_same c.hands k x None (let l = h.hands in omega arith))))))
      | inr ne ↦ rw words (get_or-set_other c.table.words (k + 2) (j + 2) n 0 (λ e. ne (omega arith)) ∙ (h.out j j-in ∙ ap hand_word (sym (get_or-set_other c.hands k j x None ne))))
    ];
  }

  taken : (id k : ℕ) (v : View) (d : Machine) → k < 64 → get_elem? c.table.views id ≡ some v → 0 < v.seats → Taken c id k v d → Holds job d
  taken id k v d k-in at alive (inl (zero-is, (x, home, is))) = subst (Holds job) (sym is) (moves _ k 1 (Some (id, x)) k-in (take_keeps job c.table h.kept id v at k k-in x alive) refl refl)
  taken id k v d k-in at alive (inr (one, is)) =
      let w = c.table.words in
      let known : slice_index w (k + 2) ≡ 1 = one_of (in_hand c k) (h.out k k-in) in
      subst (Holds job) (sym is) (stays _ (miss_keeps job c.table h.kept id v at k k-in alive) (λ j. elim (cases_eq j k) [
        | inl e ↦ subst (λ (i : ℕ). slice_index (set w (k + 2) 1) (i + 2) ≡ slice_index w (i + 2)) (sym e) (get_or-set_same w (k + 2) 1 0 (let l = h.kept.words in omega arith) ∙ sym known)
        | inr ne ↦ get_or-set_other w (k + 2) (j + 2) 1 0 (λ e. ne (omega arith))
      ]))
    where
      one_of : (o : Option (ℕ × Shard)) → slice_index c.table.words (k + 2) ≡ hand_word o → slice_index c.table.words (k + 2) ≡ 1
      one_of None e = absurd (omega arith)
      one_of (Some x) e = e

  split_keeps : (id : ℕ) (v : View) (d : Machine) → get_elem? c.table.views id ≡ some v → 0 < v.seats → v.refusals ≡ 0 → Cut c id v d → Holds job d
  split_keeps id v d at alive clear (inr (overdrawn, is)) = subst (Holds job) (sym is) (stays _ (ask_keeps job c.table h.kept id v at alive clear) (λ k. low_word c.table.words 1 (seat_word c.table + 1) k (omega arith)))
  split_keeps id v d at alive clear (inl (lt, is)) =
      let n = seat_word c.table in
      let w : View = asked n v in
      let same = asked_below n v lt in
      let here : get_elem? (set c.table.views id w) id ≡ some w = set_here c.table.views id w (there c.table.views id v at).0 in
      let seats : w.seats ≡ v.seats = ap (λ (u : View). u.seats) same in
      let pending : w.pending ≡ v.pending + 1 = ap (λ (u : View). u.pending) same in
      subst (Holds job) (sym is) (stays _ (cut_keeps job (after_ask c.table id v) (ask_keeps job c.table h.kept id v at alive clear) id w here (omega arith) (omega arith)) (λ k. low_word c.table.words 1 (n + 1) k (omega arith)))

pub step_holds : (job : Job) (m : Move) (c d : Machine) → Holds job c → Goes m c d → Holds job d
step_holds job (claim id) c d h (v, (at, alive), going, is) = subst (Holds job) (sym is) (stays job c h _ (claim_keeps job c.table h.kept id v at alive going) (λ k. low_word c.table.words 0 (claim_word c.table + 1) k (omega arith)))
step_holds job (load id) c d h (v, live, is) = subst (Holds job) (sym is) h
step_holds job (take id k) c d h (k-in, (v, (at, alive), taken-as)) = taken job c h id k v d k-in at alive taken-as
step_holds job (give id k x) c d h (k-in, hand, (v, (at, alive), true-of, is)) = subst (Holds job) (sym is) (moves job c h _ k 0 None k-in (give_keeps job c.table h.kept id v at k k-in x alive true-of) refl refl)
step_holds job (split id) c d h (v, (at, alive), clear, cut-as) = split_keeps job c h id v d at alive clear cut-as
step_holds job (join id other) c d h (v, w, (at, alive), (there-w, alive-w), apart, is) = subst (Holds job) (sym is) (stays job c h _ (join_keeps job c.table h.kept id v at other w alive alive-w apart there-w) (λ k. refl))

run_holds : (job : Job) (ms : List Move) (c d : Machine) → Holds job c → Runs ms c d → Holds job d
run_holds job [] c d h is = subst (Holds job) (sym is) h
run_holds job (m ∷ ms) c d h (e, goes, runs) = run_holds job ms e d (step_holds job m c e h goes) runs

opens_holds : (job : Job) (c : Machine) → units_of job < 2 ^ 32 → Opens job c → Holds job c
opens_holds job c small (slots, len, empty, is) = subst (Holds job) (sym is) (record {
  kept = opened job (0 ∷ 1 ∷ replicate 64 0) slots small (omega (arith, length-replicate {A = ℕ} 64 0)) refl refl len empty;
  hands = length-replicate {A = Option (ℕ × Shard)} 64 None;
  out = λ k lt. zero-at k lt ∙ ap hand_word (sym (get_or-replicate 64 k none none lt));
})
  where
    none : Option (ℕ × Shard)
    none = None

    zero-at : (k : ℕ) → k < 64 → slice_index (0 ∷ 1 ∷ replicate 64 0) (k + 2) ≡ 0
    zero-at k lt = let e : k + 2 ≡ suc (suc k) = omega arith in subst (λ (i : ℕ). slice_index (0 ∷ 1 ∷ replicate 64 0) i ≡ 0) (sym e) (get_or-replicate 64 k 0 0 lt)

-- each state that a list of steps reaches from the opening state keeps the rule
pub every_run : (job : Job) (moves : List Move) (c d : Machine) → units_of job < 2 ^ 32 → Opens job c → Runs moves c d → Holds job d
every_run job moves c d small opens runs = run_holds job moves c d (opens_holds job c small opens) runs
