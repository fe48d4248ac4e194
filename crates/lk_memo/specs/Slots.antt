-- The last answers, each in the slot of its question.
use Rattle.std.specs.Prelude.{◌≡◌, ℕ, ◌-◌, ◌/◌, ◌^◌, ◌<◌, ◌&&◌, nat_eq, bit_and}
use Rattle.std.specs.Prelude.{List, length, slice_index, slice_index_or, slice_get, Option, Some, None, option_and_then, if◌then◌else◌}
use Rattle.lk_ask.specs.declared.kept.Kept.{Kept}
use Rattle.lk_store.specs.Hashes.{mixed}
use Rattle.lk_memo.specs.declared.key.Key.{Key}
use Rattle.lk_memo.specs.declared.recent.Slot.{Slot}
use Rattle.lk_memo.specs.Keys.{kind_number, same_key}
use Rattle.lk_memo.specs.LastAnswers.{LastAnswers}

-- the hash of a key
unfoldable pub hash_of : Key → ℕ
hash_of key = mixed (mixed (kind_number key.kind) key.first) key.second

-- the slot of a key among so many
unfoldable pub slot_of : Key → ℕ → ℕ
slot_of key count = bit_and (hash_of key) (count - 1)

-- the tag of a key: other bits of its hash than those that tell its slot
unfoldable pub tag_of : Key → ℕ
tag_of key = hash_of key / 2 ^ 56

-- each slot of this era has the tag of its key
pub record AreTagged (slots : List Slot) (tags : List ℕ) (era : ℕ) : Type 0 where
  pub one_each : length tags ≡ length slots
  pub each : (i : ℕ) (d : Slot) → i < length slots → (slice_index_or slots i d).era ≡ era
      → slice_index tags i ≡ tag_of (slice_index_or slots i d).key

-- what stands there in this era under the key
abbrev pub in_slot : ℕ → Key → Slot → Option Kept
in_slot era key s = if nat_eq s.era era && same_key s.key key then Some s.kept else None

-- what these slots have in this era under the key
abbrev pub found_in : LastAnswers → Key → Option Kept
found_in r key =
    option_and_then (in_slot r.era key) (slice_get r.slots (slot_of key (length r.slots)))
