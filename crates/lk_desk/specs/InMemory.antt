-- A shelf in memory: a library, the answers of each shard, and the number of the one that is out.
use Rattle.std.specs.Prelude.{ℕ, List, Option}
use Rattle.lk_env.specs.StoredLibrary.{StoredLibrary}
use Rattle.lk_desk.specs.declared.entry.Entry.{Entry}
use Rattle.lk_memo.specs.declared.key.Key.{Key}

pub record InMemory : Type 0 where
  pub library : StoredLibrary
  pub shards : List (List (Key × Entry))
  pub out : Option ℕ
