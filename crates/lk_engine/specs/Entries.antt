-- What a memo keeps is true: at the place that stands, or at each unit above all that was looked
-- at.
use Rattle.std.specs.Prelude.{◌≡◌, ◌⊎◌, ℕ, [], Some, length}
use Rattle.lk_rulebook.specs.Place.{Place}
use Rattle.lk_rulebook.specs.Units.{place_of}
use Rattle.lk_questions.specs.Erased.{out_of, IsAnsweredAt}
use Rattle.lk_questions.specs.Table.{steps}
use Rattle.lk_store.specs.Contents.{Contents, tree_at, Extends}
use Rattle.lk_store.specs.Store.{contents_of}
use Rattle.lk_env.specs.Units.{library_of}
use Rattle.lk_env.specs.StoredLibrary.{StoredLibrary}
use Rattle.lk_ask.specs.declared.query.Query.{Query}
use Rattle.lk_ask.specs.declared.kept.Kept.{Kept}
use Rattle.lk_ask.specs.Questions.{query_of, value_at, IsKnownQuery, IsKnownAnswer}
use Rattle.lk_memo.specs.declared.key.Key.{Key}
use Rattle.lk_memo.specs.declared.lasting.Lasting.{Lasting}
use Rattle.lk_memo.specs.declared.memo.PrivateMemo.{PrivateMemo}
use Rattle.lk_memo.specs.Keys.{key_of}
use Rattle.lk_memo.specs.Lasting.{Outlasts, TakesIn}
use Rattle.lk_memo.specs.Entries.{Holds, kept_of}
use Rattle.lk_desk.specs.Truth.{above}

-- at the place the question has this answer, at just this cost, and this is the last unit that was
-- looked at
pub record IsTrueAt (w : Place) (c : Contents) (q : Query ℕ) (kept : Kept) : Type 0 where
  pub query : IsKnownQuery (length c.trees) q
  pub answer : IsKnownAnswer (length c.trees) kept.answer
  pub is : IsAnsweredAt (out_of steps w (query_of (tree_at c) q)) (value_at (tree_at c) kept.answer)
      kept.cost kept.top

-- over terms that stay it is true at the first unit above all that were looked at
abbrev pub IsLasting : StoredLibrary → Contents → Query ℕ → Kept → Type 0
IsLasting l first q kept = IsTrueAt (place_of (library_of l) (above kept.top) []) first q kept

-- what a table keeps is true over the first terms of those that stand; if a unit looks there, the
-- place is its own, and nothing of it is partial
pub record AreLasting (l : StoredLibrary) (w : Place) (c first : Contents)
    (table : Lasting) : Type 0 where
  pub each : (q : Query ℕ) (kept : Kept) → Outlasts table (key_of q) kept → IsLasting l first q kept
  pub terms : table.terms ≡ length first.trees
  pub stand : Extends first c
  pub looks : (unit : ℕ) → table.unit ≡ Some unit → w ≡ place_of (library_of l) unit []

-- each answer that is kept is true of its question at the place, and what outlasts its unit is true
-- over the library's terms, or over those that stood when the unit began
pub record AreTrue (l : StoredLibrary) (w : Place) (c : Contents)
    (memo : PrivateMemo) : Type 0 where
  pub each : (q : Query ℕ) (kept : Kept) → Holds memo (key_of q) kept → IsTrueAt w c q kept
  pub lasting : AreLasting l w c (contents_of l.tables) memo.lasting
  pub first : Contents
  pub staying : AreLasting l w c first memo.staying

-- no other answer came in than this one
pub record Keeps (old new : PrivateMemo) (q : Query ℕ) (kept : Kept) : Type 0 where
  pub private : (k : Key) (v : Kept) → Holds new k v
      → Holds old k v ⊎ ((k ≡ key_of q) × (v ≡ kept))
  pub lasting : TakesIn old.lasting new.lasting q kept
  pub staying : TakesIn old.staying new.staying q kept

-- what was kept of the question is kept
abbrev pub StillHas : PrivateMemo → PrivateMemo → Query ℕ → Type 0
StillHas old new q = (kept : Kept) → kept_of old q ≡ Some kept → kept_of new q ≡ Some kept
