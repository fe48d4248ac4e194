-- What a shard's answers say, and when they are true.
use Rattle.std.specs.Prelude.{◌≡◌, ℕ, ◌+◌, ◌≤◌, List, [], length, Contains, Option, Some, None}
use Rattle.lk_rulebook.specs.Place.{Place}
use Rattle.lk_rulebook.specs.Units.{place_of}
use Rattle.lk_questions.specs.Erased.{Value, out_of, IsAnsweredAt}
use Rattle.lk_questions.specs.Table.{steps}
use Rattle.lk_store.specs.Contents.{Contents, tree_at}
use Rattle.lk_store.specs.Store.{contents_of}
use Rattle.lk_store.specs.declared.tables.Tables.{Tables}
use Rattle.lk_env.specs.Units.{library_of}
use Rattle.lk_env.specs.StoredLibrary.{StoredLibrary}
use Rattle.lk_ask.specs.declared.kept.Kept.{Kept}
use Rattle.lk_ask.specs.declared.query.Query.{Query}
use Rattle.lk_ask.specs.declared.query.Query.TheVariants as query
use Rattle.lk_ask.specs.Questions.{query_of, value_at, IsKnownQuery, IsKnownAnswer}
use Rattle.lk_memo.specs.declared.key.Key.{Key}
use Rattle.lk_memo.specs.declared.key.Kind.{Kind}
use Rattle.lk_memo.specs.declared.key.Kind.TheVariants.{Core, Whnf, Infer, Same}
use Rattle.lk_desk.specs.declared.shard.Shard.{Shard}
use Rattle.lk_desk.specs.declared.entry.Entry.{Entry}
use Rattle.lk_desk.specs.Entries.{spelled_value, IsSpelledAnswer}
use Rattle.lk_desk.specs.Job.{Job}

-- the questions of a shard, each with its answer
abbrev pub entries_of : Shard → List (Key × Entry)
entries_of x = x.answers.entries

-- the question of a kind, of these terms
abbrev pub query_of_kind : Kind → ℕ → ℕ → Query ℕ
query_of_kind Core a b = query.Core a
query_of_kind Whnf a b = query.Whnf a
query_of_kind Infer a b = query.Infer a
query_of_kind Same a b = query.Same a b

abbrev pub question_of : Key → Query ℕ
question_of key = query_of_kind key.kind key.first key.second

-- the number of the first unit that is above all that were looked at
abbrev pub above : Option ℕ → ℕ
above None = 0
above (Some t) = t + 1

-- the place of that unit, where nothing of it is partial
abbrev pub place_above : StoredLibrary → Option ℕ → Place
place_above l t = place_of (library_of l) (above t) []

-- asked at the place above all units that were looked at for it, the question of the key has this
-- answer, at just this cost. Terms of the question are numbers of the library's store
abbrev pub IsAnswerOf : StoredLibrary → Key → Value → ℕ → Option ℕ → Type 0
IsAnswerOf l key value cost top =
    IsAnsweredAt
    (out_of steps (place_above l top) (query_of (tree_at (contents_of l.tables)) (question_of key)))
    value cost top

-- the entry is right. Its answer is spelled over the library's store
pub record IsTrueIn (l : StoredLibrary) (key : Key) (entry : Entry) : Type 0 where
  pub query : IsKnownQuery (length (contents_of l.tables).trees) (question_of key)
  pub answer : IsSpelledAnswer (contents_of l.tables) entry.answer
  pub is : IsAnswerOf l key (spelled_value (contents_of l.tables) entry.answer) entry.cost entry.top

unfoldable pub IsTrueOf : Job → Key → Entry → Type 0
IsTrueOf None key entry = ⊥
IsTrueOf (Some l) key entry = IsTrueIn l key entry

-- what is kept is right, where its answer is a number of the contents c
pub record IsFoundIn (l : StoredLibrary) (c : Contents) (key : Key) (kept : Kept) : Type 0 where
  pub query : IsKnownQuery (length (contents_of l.tables).trees) (question_of key)
  pub answer : IsKnownAnswer (length c.trees) kept.answer
  pub is : IsAnswerOf l key (value_at (tree_at c) kept.answer) kept.cost kept.top

unfoldable pub IsFoundOf : Job → Contents → Key → Kept → Type 0
IsFoundOf None c key kept = ⊥
IsFoundOf (Some l) c key kept = IsFoundIn l c key kept

-- the tables are those of the job's library
abbrev pub IsTablesOf : Job → Tables → Type 0
IsTablesOf None t = ⊥
IsTablesOf (Some l) t = l.tables ≡ t

-- answers that are true of the job, and not too many
pub record AreTrue (job : Job) (entries : List (Key × Entry)) : Type 0 where
  pub each : (e : Key × Entry) → Contains entries e → IsTrueOf job e.0 e.1
  pub few : length entries ≤ 4096
