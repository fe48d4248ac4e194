-- What each step of a seat owes to the table.
use Rattle.std.proofs.Common.{◌≡◌, ℕ, zero, suc, ◌+◌, ◌-◌, ◌%◌, ◌^◌, ◌<◌, false, List, [], ◌∷◌, All, length, get_or, slice_index, Some, refl, sym, ap, ◌∙◌, subst, arith, set}
use Rattle.std.proofs.Math.Nat.{mod-eq_of_lt}
use mathlib.Core.Option.{some, none}
use lib.ListN.{get_elem?}
use Rattle.atomic_table.proofs.Lists.{at_index, set_again, set_else}
use Rattle.atomic_table.specs.Table.{Me, step, Allows, Splits, Joins, Act, keeps, takes, gives, Valid, stepped, carried_after, put_back}
use Rattle.lk_desk.specs.declared.view.View.{View}
use Rattle.lk_desk.specs.declared.shard.Shard.{Shard}
use Rattle.lk_desk.specs.Job.{Job}
use Rattle.lk_desk.specs.Truth.{AreTrue, entries_of}
use Rattle.lk_desk.specs.Rule.{Slot, Desk, IsDesk, claim_word, seat_word, spent_view}
use Rattle.lk_desk.specs.Steps.{saw, gave, handed, with_word, claimed, missed, asked, cut, newcomer, both_views, Claimed, Loaded, Counted, Took, Gave, Asked}
use Rattle.lk_desk.proofs.Claims.{claim_keeps, claims_few, below}
use Rattle.lk_desk.proofs.Splits.{ask_keeps, cut_keeps, join_keeps, few_seats, seats_few}
use Rattle.lk_desk.proofs.Exchanges.{miss_keeps, take_keeps, give_keeps}
use Rattle.lk_desk.proofs.Whole.{whole}

-- every number that the view drew is below the claim word
below_word : (job : Job) (s : Desk) → IsDesk job s → (id : ℕ) (v : View) → get_elem? s.views id ≡ some v → All (λ x. x < claim_word s) v.drawn
below_word job s kept id v at k d lt = let b = below job s kept id v at k d lt in omega arith

-- a step that changes nothing
same : (job : Job) (s : Desk) → IsDesk job s → (id : ℕ) (v : View) → get_elem? s.views id ≡ some v → (i : ℕ) → i < length s.words → IsDesk job (with_word s i (slice_index s.words i) id v)
same job s kept id v at i lt =
    let w : set s.words i (slice_index s.words i) ≡ s.words = set_again s.words i (slice_index s.words i) (at_index s.words i (slice_index s.words i) lt (get_or-any s.words i lt)) in
    let u : set s.views id v ≡ s.views = set_again s.views id v at in
    rw (w, u) kept
  where
    get_or-any : (l : List ℕ) (i : ℕ) → i < length l → slice_index l i ≡ get_or l i (slice_index l i)
    get_or-any [] i lt = absurd (omega arith)
    get_or-any (x ∷ l) zero lt = refl
    get_or-any (x ∷ l) (suc i) lt = get_or-any l i (omega arith)

pub claim_allows : (job : Job) (id slots : ℕ) (me : Me Slot View) → 0 < me.0.seats → me.0.ended ≡ false → Allows (IsDesk job) slots id me 0 (λ n. (n + 1) % 2 ^ 64) (Claimed (step slots 0 1 0 none) me)
claim_allows job id slots me alive going s kept len at word =
    let few = claims_few job s kept in
    let small = kept.small in
    let fits : claim_word s + 1 < 2 ^ 64 = omega arith in
    let next : (claim_word s + 1) % 2 ^ 64 ≡ claim_word s + 1 = mod-eq_of_lt fits in
    let P : ℕ → Type 0 = λ m. IsDesk job (with_word s 0 m id (claimed (claim_word s) me.0)) in
    (claimed (claim_word s) me.0, keeps, tt, subst P (sym next) (claim_keeps job s kept id me.0 at alive going), (refl, below_word job s kept id me.0 at))

pub load_allows : (job : Job) (id slots : ℕ) (me : Me Slot View) → Allows (IsDesk job) slots id me 0 (λ n. n) (Loaded (step slots 0 0 0 none) me)
load_allows job id slots me s kept len at word = (me.0, keeps, tt, same job s kept id me.0 at 0 (let l = kept.words in omega arith), (refl, below_word job s kept id me.0 at))

pub count_allows : (job : Job) (id slots : ℕ) (me : Me Slot View) → 0 < me.0.seats → Allows (IsDesk job) slots id me 1 (λ n. n) (Counted (step slots 1 0 0 none) me)
count_allows job id slots me alive s kept len at word = (me.0, keeps, tt, same job s kept id me.0 at 1 (let l = kept.words in omega arith), (refl, few_seats job s kept id me.0 at, λ all ended. whole job s kept id me.0 at all alive ended))

pub ask_allows : (job : Job) (id slots : ℕ) (me : Me Slot View) → 0 < me.0.seats → me.0.refusals ≡ 0 → Allows (IsDesk job) slots id me 1 (λ n. (n + 1) % 2 ^ 64) (Asked (step slots 1 1 0 none) me)
ask_allows job id slots me alive clear s kept len at word =
    let few = seats_few job s kept in
    let fits : seat_word s + 1 < 2 ^ 64 = omega arith in
    let next : (seat_word s + 1) % 2 ^ 64 ≡ seat_word s + 1 = mod-eq_of_lt fits in
    let P : ℕ → Type 0 = λ m. IsDesk job (with_word s 1 m id (asked (seat_word s) me.0)) in
    (asked (seat_word s) me.0, keeps, tt, subst P (sym next) (ask_keeps job s kept id me.0 at alive clear), refl)

pub cut_splits : (job : Job) (id : ℕ) (v : View) → 0 < v.seats → 0 < v.pending → Splits {S = Slot} (IsDesk job) id v (cut v) (newcomer v)
cut_splits job id v alive pending s kept at = cut_keeps job s kept id v at alive pending

pub join_joins : (job : Job) (id other : ℕ) (v w : View) → 0 < v.seats → 0 < w.seats → Joins {S = Slot} (IsDesk job) id v other w (both_views v w) spent_view
join_joins job id other v w alive alive-w s kept at apart there = join_keeps job s kept id v at other w alive alive-w apart (sym (set_else s.views id other (both_views v w) apart) ∙ there)

module _ (job : Job) (slots id k : ℕ) (k-in : k < 64) (me : Me Slot View) (alive : 0 < me.0.seats) where
  taken : (s : Desk) → IsDesk job s → get_elem? s.views id ≡ some me.0 → (n : ℕ) → slice_index s.words (k + 2) ≡ n
      → (w : View) × (a : Act Slot) × Valid s.homes me.1 a × IsDesk job (stepped s (k + 2) 1 id me.1 w a) × Took (step slots (k + 2) 1 0 none) me n (w, carried_after me.1 a)
  taken s kept at zero is =
      let r = kept.home k k-in is in
      let here : k + 2 - 2 ≡ k = omega arith in
      let live = ((kept.each id me.0 at).live alive).same_job in (
        saw k r.0 me.0,
        takes k (Some r.0),
        r.1,
        take_keeps job s kept id me.0 at k k-in r.0 alive,
        (r.0, ap (λ (j : ℕ). let c : Me Slot View = (saw j r.0 me.0, (j, Some r.0) ∷ me.1) in c) (sym here), subst (λ (j : Job). AreTrue j (entries_of r.0)) (sym live) r.2),
      )
  taken s kept at (suc n) is = (missed me.0, keeps, tt, miss_keeps job s kept id me.0 at k k-in alive, refl)

  pub take_allows : Allows (IsDesk job) slots id me (k + 2) (λ _. 1) (Took (step slots (k + 2) 1 0 none) me)
  take_allows s kept len at small = taken s kept at (slice_index s.words (k + 2)) refl

  pub give_allows : (x : Shard) → me.1 ≡ (k, Some x) ∷ [] → AreTrue me.0.job (entries_of x) → Allows (IsDesk job) slots id me (k + 2) (λ _. 0) (λ _. Gave (step slots (k + 2) 0 0 none) me 0)
  give_allows x in-hand true-of s kept len at small =
      let P : List (ℕ × Slot) → Type 0 = λ c. IsDesk job (record { words = set s.words (k + 2) 0; homes = put_back s.homes c; views = set s.views id (gave (handed c) me.0) }) in
      (gave (handed me.1) me.0, gives, tt, subst P (sym in-hand) (give_keeps job s kept id me.0 at k k-in x alive true-of), refl)
