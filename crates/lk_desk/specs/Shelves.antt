-- What a shelf tells before and after a call: the answers of each shard, by its number.
use Rattle.std.specs.Prelude.{◌≡◌, ◌≢◌, ℕ, ◌<◌, List, Option, Some, None}
use Rattle.lk_desk.specs.declared.entry.Entry.{Entry}
use Rattle.lk_memo.specs.declared.key.Key.{Key}
use Rattle.lk_desk.specs.declared.shard.Shard.{Shard}
use Rattle.lk_desk.specs.declared.shelf.Left.{Left}
use Rattle.lk_desk.specs.declared.shelf.Left.TheVariants.{Stored, Out, Full}
use Rattle.lk_desk.specs.Truth.{entries_of}
use Rattle.lk_desk.specs.Shards.{Misses, IsPut, IsFull}

-- the answers of each shard, by its number
abbrev pub Told : Type 0
Told = ℕ → List (Key × Entry)

-- a shard and its number, where there is one
abbrev pub Numbered : Type 0
Numbered = Option (ℕ × Shard)

abbrev pub AsBefore : Told → Told → Type 0
AsBefore before after = (j : ℕ) → j < 64 → after j ≡ before j

-- the others are as they were
abbrev pub Others : ℕ → Told → Told → Type 0
Others shard before after = (j : ℕ) → j < 64 → j ≢ shard → after j ≡ before j

abbrev pub AsTaken : Option Shard → ℕ → Told → Told → Type 0
AsTaken None shard before after = AsBefore before after
AsTaken (Some x) shard before after = (entries_of x ≡ before shard) × Others shard before after

abbrev pub AsGiven : ℕ → List (Key × Entry) → Told → Told → Type 0
AsGiven shard given before after = (after shard ≡ given) × Others shard before after

-- how the shards are after an answer was left
abbrev pub LeftAs : Left → ℕ → Key → Entry → Told → Told → Type 0
LeftAs Stored shard key entry before after =
    IsPut (before shard) (after shard) key entry × Others shard before after
LeftAs Out shard key entry before after = AsBefore before after
LeftAs Full shard key entry before after = IsFull (before shard) key × AsBefore before after

abbrev pub IfOut : Left → Type 0 → Type 0
IfOut Stored p = Unit {0}
IfOut Out p = p
IfOut Full p = Unit {0}

-- the shard of this number was taken, and has no such answer
abbrev pub TakenMisses : ℕ → Numbered → Key → ℕ → Type 0
TakenMisses shard None key unit = ⊥
TakenMisses shard (Some x) key unit = (x.0 ≡ shard) × Misses (entries_of x.1) key unit

-- the shard of this number was taken and given back with the answer under its question, and the
-- others of its answers as they were
abbrev pub TakenAndPut : ℕ → Numbered → Numbered → Key → Entry → Type 0
TakenAndPut shard None back key entry = ⊥
TakenAndPut shard (Some x) None key entry = ⊥
TakenAndPut shard (Some x) (Some y) key entry =
    (x.0 ≡ shard) × (y.0 ≡ shard) × IsPut (entries_of x.1) (entries_of y.1) key entry

-- the shard of this number was taken, and given back as it was
abbrev pub TakenKept : ℕ → Numbered → Numbered → Type 0
TakenKept shard None back = ⊥
TakenKept shard (Some x) None = ⊥
TakenKept shard (Some x) (Some y) =
    (x.0 ≡ shard) × (y.0 ≡ shard) × (entries_of y.1 ≡ entries_of x.1)

-- the shard of this number was taken, has no room, and was given back as it was
abbrev pub TakenFull : ℕ → Numbered → Numbered → Key → Type 0
TakenFull shard None back key = ⊥
TakenFull shard (Some x) None key = ⊥
TakenFull shard (Some x) (Some y) key =
    (x.0 ≡ shard) × (y.0 ≡ shard) × IsFull (entries_of x.1) key × (entries_of y.1 ≡ entries_of x.1)

-- how an answer was left, by the shards that were taken and given back last, where one was taken
-- once
abbrev pub LeftSo : Left → Type 0 → ℕ → Numbered → Numbered → Key → Entry → Type 0
LeftSo Stored once shard taken back key entry = once × TakenAndPut shard taken back key entry
LeftSo Out once shard taken back key entry = Unit {0}
LeftSo Full once shard taken back key entry = once × TakenFull shard taken back key
