-- Shards in memory, all with true answers.
pub mod Told
use Rattle.std.specs.Prelude.{ℕ, List, [], map, All, slice_index_or}
use Rattle.lk_desk.specs.declared.entry.Entry.{Entry}
use Rattle.lk_memo.specs.declared.key.Key.{Key}
use Rattle.lk_desk.specs.declared.shard.Shard.{Shard}
use Rattle.lk_desk.specs.Job.{Job}
use Rattle.lk_desk.specs.Truth.{AreTrue, entries_of}

abbrev pub AllTrue : Job → List Shard → Type 0
AllTrue job shards = All (λ x. AreTrue job (entries_of x)) shards

-- the answers of the k-th shard
abbrev pub entries_at : List Shard → ℕ → List (Key × Entry)
entries_at xs k = slice_index_or (map entries_of xs) k []
