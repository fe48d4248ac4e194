-- Where a question belongs, and what a shard has of it.
use Rattle.std.specs.Prelude.{◌≡◌, ℕ, ◌+◌, ◌*◌, ◌%◌, ◌<◌, ◌≤◌, ◌⊎◌, false, List, length, Contains, Option, Some, None, IsSome}
use Rattle.std.specs.Map.{lookup}
use Rattle.lk_questions.specs.Laws.{IsBelow}
use Rattle.lk_ask.specs.declared.kept.Kept.{Kept}
use Rattle.lk_desk.specs.declared.entry.Entry.{Entry}
use Rattle.lk_store.specs.Contents.{Contents}
use Rattle.lk_desk.specs.Entries.{IsSpelledAnswer, IsMade}
use Rattle.lk_memo.specs.declared.key.Key.{Key}
pub use Rattle.lk_memo.specs.Keys.{kind_number, same_key}

-- Numbers of terms run on, so questions spread over the 64 shards. Those of one term, which is
-- first and second, come to all of them, as 5 is odd; those of another kind begin 21 shards
-- further.
abbrev pub shard_number : Key → ℕ
shard_number key = (21 * kind_number key.kind + key.first % 64 + 4 * (key.second % 64)) % 64

-- what stands under the question
abbrev pub under : Key → List (Key × Entry) → Option Entry
under key entries = lookup (same_key key) entries

-- this answer stands under the question, and only units below this one were looked at for it
abbrev pub Finds : List (Key × Entry) → Key → ℕ → Entry → Type 0
Finds entries key unit entry = (under key entries ≡ Some entry) × IsBelow entry.top unit

-- no such answer stands there
abbrev pub Misses : List (Key × Entry) → Key → ℕ → Type 0
Misses entries key unit = (entry : Entry) → Finds entries key unit entry → ⊥

-- what stands there is kept, by a number of the contents c, of an overlay of the library with contents b
abbrev pub IsMadeOf : List (Key × Entry) → Key → ℕ → Contents → Contents → Kept → Type 0
IsMadeOf entries key unit b c kept =
    (entry : Entry) × Finds entries key unit entry × IsMade b c entry kept

-- the answers are spelled over the contents b of the library
abbrev pub AreSpelled : Contents → List (Key × Entry) → Type 0
AreSpelled b entries = (e : Key × Entry) → Contains entries e → IsSpelledAnswer b e.1.answer

-- no answer stands under the question
abbrev pub Lacks : List (Key × Entry) → Key → Type 0
Lacks entries key = under key entries ≡ None

-- there is room for an answer of the question, or one stands there
abbrev pub HasRoom : List (Key × Entry) → Key → Type 0
HasRoom entries key = (length entries < 4096) ⊎ IsSome (under key entries)

-- the answer stands under its question, and under each other one what stood there. There was room,
-- or an answer of this question
pub record IsPut (before after : List (Key × Entry)) (key : Key) (entry : Entry) : Type 0 where
  pub stands : under key after ≡ Some entry
  pub others : (q : Key) → same_key key q ≡ false → under q after ≡ under q before
  pub entries : (e : Key × Entry) → Contains after e → Contains before e ⊎ (e ≡ (key, entry))
  pub room : HasRoom before key
  pub few : length before ≤ 4096 → length after ≤ 4096

-- there is no room
pub record IsFull (entries : List (Key × Entry)) (key : Key) : Type 0 where
  pub full : 4096 ≤ length entries
  pub lacks : Lacks entries key
