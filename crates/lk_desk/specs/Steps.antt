-- The six kinds of step: what each changes, and what it tells the seat that steps.
use Rattle.std.specs.Prelude.{◌≡◌, ℕ, zero, suc, ◌+◌, ◌-◌, ◌<◌, ◌≤◌, ◌||◌, true, List, [], ◌∷◌, ◌++◌, All, nat_lt, slice_set, if◌then◌else◌, option_map, Some, None}
use Rattle.std.specs.declared.option.Option.{Option}
use mathlib.Core.Option.{some, none}
use Rattle.atomic_table.specs.Table.{Me, Step, rest}
use Rattle.lk_desk.specs.declared.view.View.{View}
use Rattle.lk_desk.specs.declared.shard.Shard.{Shard}
use Rattle.lk_desk.specs.Job.{units_of}
use Rattle.lk_desk.specs.Truth.{AreTrue, entries_of}
use Rattle.lk_desk.specs.Rule.{Slot, Desk, HasEach, claim_word, seat_word, first_view, spent_view}

-- a desk with another number in a word, and another view of a seat
abbrev pub with_word : Desk → ℕ → ℕ → ℕ → View → Desk
with_word s i n id w =
    record { words = slice_set s.words i n; homes = s.homes; views = slice_set s.views id w }

-- Claim: the number found is appended if there is such a unit, else the seat has ended
abbrev pub claimed : ℕ → View → View
claimed found v =
    if nat_lt found (units_of v.job) then record v { drawn = v.drawn ++ found ∷ [] }
    else record v { overdrawn = v.overdrawn + 1; ended = true }

-- Take, where it found the shard out
abbrev pub missed : View → View
missed v = record v { outs = v.outs + 1 }

-- Take, where it found the shard at home
abbrev pub saw : ℕ → Shard → View → View
saw k x v = record v { takes = v.takes + 1; taken = Some (k, x) }

-- Give
abbrev pub gave : Option (ℕ × Shard) → View → View
gave x v = record v { returned = x }

abbrev pub handed : List (ℕ × Slot) → Option (ℕ × Shard)
handed [] = None
handed (y ∷ ys) = option_map (λ x. (y.0, x)) y.1

-- the first move of Split: a seat is counted, or its refusal noted
abbrev pub asked : ℕ → View → View
asked found v =
    if nat_lt found 65536 then record v { pending = v.pending + 1 }
    else record v { refusals = v.refusals + 1 }

-- the second: the seat that was counted comes
abbrev pub cut : View → View
cut v = record v { pending = v.pending - 1 }

abbrev pub newcomer : View → View
newcomer v = first_view v.job

-- Join: one view takes in another
abbrev pub both_views : View → View → View
both_views v w = record {
  drawn = v.drawn ++ w.drawn;
  overdrawn = v.overdrawn + w.overdrawn;
  ended = v.ended || w.ended;
  refusals = v.refusals + w.refusals;
  outs = v.outs + w.outs;
  takes = v.takes + w.takes;
  taken = v.taken;
  returned = v.returned;
  seats = v.seats + w.seats;
  pending = v.pending + w.pending;
  job = v.job;
}

-- What each step tells: of the step, the seat before, the number found and the seat after.
-- A number that is drawn is above all that the seat drew before.
abbrev pub Claimed : Step Slot → Me Slot View → ℕ → Me Slot View → Type 0
Claimed step me found after = (after ≡ (claimed found me.0, me.1)) × All (λ x. x < found) me.0.drawn

abbrev pub Loaded : Step Slot → Me Slot View → ℕ → Me Slot View → Type 0
Loaded step me found after = (after ≡ me) × All (λ x. x < found) me.0.drawn

-- A load of the word of seats: the seat came from no more. One that came from them all, and has
-- ended, drew each unit, once.
abbrev pub Counted : Step Slot → Me Slot View → ℕ → Me Slot View → Type 0
Counted step me found after =
    (after ≡ me) × (me.0.seats ≤ found) × (me.0.seats ≡ found → me.0.ended ≡ true
    → HasEach me.0 (units_of me.0.job))

abbrev pub Took : Step Slot → Me Slot View → ℕ → Me Slot View → Type 0
Took step me zero after =
    (x : Shard) × (after ≡ (saw (step.word - 2) x me.0, (step.word - 2, Some x) ∷ me.1))
    × AreTrue me.0.job (entries_of x)
Took step me (suc n) after = after ≡ (missed me.0, me.1)

abbrev pub Gave : Step Slot → Me Slot View → ℕ → Me Slot View → Type 0
Gave step me stored after = after ≡ (gave (handed me.1) me.0, rest me.1)

abbrev pub Asked : Step Slot → Me Slot View → ℕ → Me Slot View → Type 0
Asked step me found after = after ≡ (asked found me.0, me.1)

-- What each kind does to the desk.
abbrev pub after_claim : Desk → ℕ → View → Desk
after_claim s id v = with_word s 0 (claim_word s + 1) id (claimed (claim_word s) v)

abbrev pub after_miss : Desk → ℕ → ℕ → View → Desk
after_miss s id k v = with_word s (k + 2) 1 id (missed v)

abbrev pub after_take : Desk → ℕ → ℕ → Shard → View → Desk
after_take s id k x v =
    record {
      words = slice_set s.words (k + 2) 1;
      homes = slice_set s.homes k none;
      views = slice_set s.views id (saw k x v);
    }

abbrev pub after_give : Desk → ℕ → ℕ → Shard → View → Desk
after_give s id k x v =
    record {
      words = slice_set s.words (k + 2) 0;
      homes = slice_set s.homes k (some (Some x));
      views = slice_set s.views id (gave (Some (k, x)) v);
    }

abbrev pub after_ask : Desk → ℕ → View → Desk
after_ask s id v = with_word s 1 (seat_word s + 1) id (asked (seat_word s) v)

abbrev pub after_cut : Desk → ℕ → View → Desk
after_cut s id v =
    record {
      words = s.words;
      homes = s.homes;
      views = slice_set s.views id (cut v) ++ newcomer v ∷ [];
    }

abbrev pub after_join : Desk → ℕ → View → ℕ → View → Desk
after_join s id v other w =
    record {
      words = s.words;
      homes = s.homes;
      views = slice_set (slice_set s.views id (both_views v w)) other spent_view;
    }
