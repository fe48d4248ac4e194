-- The desk as a machine of its own, and the runs that lists of steps make.
use Rattle.std.specs.Prelude.{◌≡◌, ◌≢◌, ◌⊎◌, ℕ, ◌+◌, ◌<◌, ◌≤◌, false, List, [], ◌∷◌, All, length, replicate, slice_index, slice_index_or, slice_set, Some, None}
use Rattle.std.specs.declared.option.Option.{Option}
use mathlib.Core.Option.{some}
use lib.ListN.{get_elem?}
use Rattle.atomic_table.specs.Table.{opening}
use Rattle.lk_desk.specs.declared.view.View.{View}
use Rattle.lk_desk.specs.declared.shard.Shard.{Shard}
use Rattle.lk_desk.specs.Job.{Job}
use Rattle.lk_desk.specs.Truth.{AreTrue, entries_of}
use Rattle.lk_desk.specs.Rule.{Slot, Desk, IsDesk, IsEmptyShard, first_view, seat_word}
use Rattle.lk_desk.specs.Steps.{asked, after_claim, after_miss, after_take, after_give, after_ask, after_cut, after_join}

-- the table, and of each shard which seat has it in hand, and with which entries, or nothing where
-- it is at home
pub record Machine : Type 0 where
  pub table : Desk
  pub hands : List (Option (ℕ × Shard))

-- the six kinds of step, each by a seat's number
pub data Move : Type 0 where
  claim : ℕ → Move
  load : ℕ → Move
  take : ℕ → ℕ → Move
  give : ℕ → ℕ → Shard → Move
  split : ℕ → Move
  join : ℕ → ℕ → Move

abbrev pub in_hand : Machine → ℕ → Option (ℕ × Shard)
in_hand c k = slice_index_or c.hands k None

-- the table changes, and what seats have in hand does not
abbrev pub changed : Machine → Desk → Machine
changed c table = record { table = table; hands = c.hands }

-- the table changes, and of the k-th shard which seat has it in hand
abbrev pub passed : Machine → Desk → ℕ → Option (ℕ × Shard) → Machine
passed c table k hand = record { table = table; hands = slice_set c.hands k hand }

-- the seat has this view, and another did not take it in
abbrev pub Lives : Machine → ℕ → View → Type 0
Lives c id v = (get_elem? c.table.views id ≡ some v) × (0 < v.seats)

-- where the word was 0 the shard goes into the seat's hand, and else the seat notes that it was out
abbrev pub Taken : Machine → ℕ → ℕ → View → Machine → Type 0
Taken c id k v d =
    ((slice_index c.table.words (k + 2) ≡ 0)
    × ((x : Shard) × (get_elem? c.table.homes k ≡ some (some (Some x)))
    × (d ≡ passed c (after_take c.table id k x v) k (Some (id, x)))))
    ⊎ ((0 < slice_index c.table.words (k + 2)) × (d ≡ changed c (after_miss c.table id k v)))

-- where fewer than 65,536 seats were made a new one comes, and else the refusal is noted
abbrev pub Cut : Machine → ℕ → View → Machine → Type 0
Cut c id v d =
    ((seat_word c.table < 65536)
    × (d ≡ changed c (after_cut (after_ask c.table id v) id (asked (seat_word c.table) v))))
    ⊎ ((65536 ≤ seat_word c.table) × (d ≡ changed c (after_ask c.table id v)))

-- when a step is there, and what it makes of the desk
abbrev pub Goes : Move → Machine → Machine → Type 0
Goes (claim id) c d =
    (v : View) × Lives c id v × (v.ended ≡ false) × (d ≡ changed c (after_claim c.table id v))
Goes (load id) c d = (v : View) × Lives c id v × (d ≡ c)
Goes (take id k) c d = (k < 64) × ((v : View) × Lives c id v × Taken c id k v d)
Goes (give id k x) c d =
    (k < 64) × ((y : Shard) × (in_hand c k ≡ Some (id, y)))
    × ((v : View) × Lives c id v × AreTrue v.job (entries_of x)
    × (d ≡ passed c (after_give c.table id k x v) k None))
Goes (split id) c d = (v : View) × Lives c id v × (v.refusals ≡ 0) × Cut c id v d
Goes (join id other) c d =
    (v : View) × (w : View) × Lives c id v × Lives c other w × (other ≢ id)
    × (d ≡ changed c (after_join c.table id v other w))

abbrev pub Runs : List Move → Machine → Machine → Type 0
Runs [] c d = d ≡ c
Runs (m ∷ ms) c d = (e : Machine) × Goes m c e × Runs ms e d

-- one seat, no number drawn, and each shard empty and at home
abbrev pub Opens : Job → Machine → Type 0
Opens job c =
    (slots : List Slot) × (length slots ≡ 64) × All IsEmptyShard slots
    × (c ≡ record {
      table = opening (0 ∷ 1 ∷ replicate 64 0) slots (first_view job);
      hands = replicate 64 None;
    })

abbrev pub hand_word : Option (ℕ × Shard) → ℕ
hand_word None = 0
hand_word (Some x) = 1

-- the rule, and each shard is at home or in one seat's hand
pub record Holds (job : Job) (c : Machine) : Type 0 where
  pub kept : IsDesk job c.table
  pub hands : length c.hands ≡ 64
  pub out : (k : ℕ) → k < 64 → slice_index c.table.words (k + 2) ≡ hand_word (in_hand c k)
