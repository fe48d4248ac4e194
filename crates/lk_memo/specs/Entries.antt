-- What a memo has of a question.
use Rattle.std.specs.Prelude.{◌≡◌, ◌⊎◌, ℕ, Option, Some, None, Contains}
use Rattle.std.specs.Map.{lookup}
use Rattle.lk_ask.specs.declared.kept.Kept.{Kept}
use Rattle.lk_ask.specs.declared.query.Query.{Query}
use Rattle.lk_memo.specs.declared.key.Key.{Key}
use Rattle.lk_memo.specs.declared.memo.PrivateMemo.{PrivateMemo}
use Rattle.lk_memo.specs.Keys.{key_of, same_key}
use Rattle.lk_memo.specs.Lasting.{lasting_of}
use Rattle.lk_memo.specs.Slots.{found_in}

-- the answer is kept under the key while the place stands, in its slot or among the dear ones
abbrev pub Holds : PrivateMemo → Key → Kept → Type 0
Holds memo key kept = (found_in memo.recent key ≡ Some kept) ⊎ Contains memo.cache.entries (key, kept)

-- this, or else that
abbrev pub first_of : Option Kept → Option Kept → Option Kept
first_of (Some kept) other = Some kept
first_of None other = other

-- what is found that outlasts its unit: over a library's own terms, or over those made since
abbrev pub outlasting_of : PrivateMemo → Query ℕ → Option Kept
outlasting_of memo query = first_of (lasting_of memo.lasting query) (lasting_of memo.staying query)

-- what is found under the question: in its slot, or one that outlasts its unit, or else among the
-- dear ones
abbrev pub kept_of : PrivateMemo → Query ℕ → Option Kept
kept_of memo query =
    first_of (found_in memo.recent (key_of query)) (first_of (outlasting_of memo query)
    (lookup (same_key (key_of query)) memo.cache.entries))
