-- What a memo keeps stays true: as answers come in and go, and as another unit is at work.
use Rattle.std.proofs.Common.{◌≡◌, ℕ, [], length, Option, Some, None, sym, subst, ◌∙◌, inl, inr}
use Rattle.std.specs.Prelude.{IfSome}
use Rattle.lk_rulebook.specs.Place.{Place}
use Rattle.lk_rulebook.specs.Units.{place_of}
use Rattle.lk_store.specs.Contents.{Contents, Extends}
use Rattle.lk_store.specs.Store.{contents_of}
use Rattle.lk_env.specs.Units.{library_of}
use Rattle.lk_env.specs.StoredLibrary.{StoredLibrary}
use Rattle.lk_ask.specs.declared.query.Query.{Query}
use Rattle.lk_ask.specs.declared.kept.Kept.{Kept}
use Rattle.lk_ask.specs.Questions.{IsKnownQuery, IsKnownAnswer}
use Rattle.lk_memo.specs.declared.key.Key.{Key}
use Rattle.lk_memo.specs.Keys.{key_of}
use Rattle.lk_memo.specs.declared.lasting.Lasting.{Lasting}
use Rattle.lk_memo.specs.declared.memo.PrivateMemo.{PrivateMemo}
use Rattle.lk_memo.specs.Lasting.{Lasts, lasting_of, TakesIn, BeginsWith, GoesOn}
use Rattle.lk_memo.specs.Entries.{Holds, kept_of}
use Rattle.lk_memo.proofs.Keys.{key_of-injective}
use Rattle.lk_memo.proofs.Keeping.{found_holds, lasting_is}
use Rattle.lk_engine.specs.Entries.{IsTrueAt, IsLasting, AreLasting, AreTrue, Keeps}
use Rattle.lk_engine.proofs.Lasting.{lasting_here, here_lasts}

module _ (l : StoredLibrary) (w : Place) (c : Contents) where
  -- an answer that came in is true
  came_in : (q : Query ℕ) (kept : Kept) (p : Kept → Query ℕ → Type 0) → p kept q
      → (r : Query ℕ) (v : Kept) → key_of r ≡ key_of q → v ≡ kept → p v r
  came_in q kept p h r v key is =
      let one : r ≡ q = key_of-injective r q key in
      rw (one, is) h

  -- one more answer is kept in a table
  table_more : (first : Contents) (old new : Lasting) (q : Query ℕ) (kept : Kept)
      → AreLasting l w c first old → TakesIn old new q kept → IsTrueAt w c q kept
      → AreLasting l w c first new
  table_more first old new q kept h more this = record {
    each = λ r v stands. elim (more.each (key_of r) v stands) [
      | inl before ↦ h.each r v before
      | inr is ↦ came_in q kept (λ k a. IsLasting l first a k) (lasts is.2) r v is.0 is.1
    ];
    terms = more.terms ∙ h.terms;
    stand = h.stand;
    looks = λ n is. h.looks n (sym more.unit ∙ is);
  }
    where
      lasts : Lasts old q kept → IsLasting l first q kept
      lasts is = here_lasts l w c first is.unit h.stand (h.looks is.unit is.looks) q kept
          (subst (λ n. IsKnownQuery n q) h.terms is.query)
          (subst (λ n. IsKnownAnswer n kept.answer) h.terms is.answer) this

  -- one more answer is kept
  pub entries_more : (old new : PrivateMemo) (q : Query ℕ) (kept : Kept) → AreTrue l w c old
      → Keeps old new q kept → IsTrueAt w c q kept → AreTrue l w c new
  entries_more old new q kept h more this = record {
    each = λ r v holds. elim (more.private (key_of r) v holds) [
      | inl before ↦ h.each r v before
      | inr is ↦ came_in q kept (λ k a. IsTrueAt w c a k) this r v is.0 is.1
    ];
    lasting = table_more (contents_of l.tables) old.lasting new.lasting q kept h.lasting more.lasting this;
    first = h.first;
    staying = table_more h.first old.staying new.staying q kept h.staying more.staying this;
  }

  -- no answer came in
  pub entries_fewer : (old new : PrivateMemo) → AreTrue l w c old
      → ((k : Key) (v : Kept) → Holds new k v → Holds old k v) → new.lasting ≡ old.lasting
      → new.staying ≡ old.staying → AreTrue l w c new
  entries_fewer old new h fewer lasting staying = record {
    each = λ q kept holds. h.each q kept (fewer (key_of q) kept holds);
    lasting = subst (λ t. AreLasting l w c (contents_of l.tables) t) (sym lasting) h.lasting;
    first = h.first;
    staying = subst (λ t. AreLasting l w c h.first t) (sym staying) h.staying;
  }

  -- an answer that a table gave
  lasts_at : (first : Contents) (table : Lasting) (q : Query ℕ) (kept : Kept)
      → AreLasting l w c first table → lasting_of table q ≡ Some kept → IsTrueAt w c q kept
  lasts_at first table q kept h is =
      let found = lasting_is table q kept is in
      lasting_here l w c first found.unit h.stand (h.looks found.unit found.looks) q kept
      found.below (h.each q kept found.stands)

  -- an answer that the memo gave
  pub true_at : (memo : PrivateMemo) (q : Query ℕ) (kept : Kept) → AreTrue l w c memo
      → kept_of memo q ≡ Some kept → IsTrueAt w c q kept
  true_at memo q kept h is = elim (found_holds memo q kept is) [
    | inl private ↦ h.each q kept private
    | inr outlasts ↦ elim outlasts [
      | inl lasts ↦ lasts_at (contents_of l.tables) memo.lasting q kept h.lasting lasts
      | inr stays ↦ lasts_at h.first memo.staying q kept h.staying stays
    ]
  ]

  pub found_true : (memo : PrivateMemo) (q : Query ℕ) (o : Option Kept) → AreTrue l w c memo
      → o ≡ kept_of memo q → IfSome o (IsTrueAt w c q)
  found_true memo q (Some kept) h is = true_at memo q kept h (sym is)
  found_true memo q None h is = tt

  -- a table was emptied, and no unit looks
  table_begins : (table : Lasting) (count : ℕ) → BeginsWith table count None
      → count ≡ length (contents_of l.tables).trees → Extends (contents_of l.tables) c
      → AreLasting l w c (contents_of l.tables) table
  table_begins table count h all stand = record {
    each = λ q kept stands. absurd (h.none (key_of q) kept stands);
    terms = h.terms ∙ all;
    stand = stand;
    looks = λ n is. absurd (let no : None ≡ Some n = sym h.unit ∙ is in cc);
  }

  -- all was forgotten, also what outlasts its unit
  pub nothing_kept : (memo : PrivateMemo) (count : ℕ)
      → ((k : Key) (v : Kept) → Holds memo k v → ⊥) → BeginsWith memo.lasting count None
      → BeginsWith memo.staying count None → count ≡ length (contents_of l.tables).trees
      → Extends (contents_of l.tables) c → AreTrue l w c memo
  nothing_kept memo count none lasting staying all stand = record {
    each = λ q kept holds. absurd (none (key_of q) kept holds);
    lasting = table_begins memo.lasting count lasting all stand;
    first = contents_of l.tables;
    staying = table_begins memo.staying count staying all stand;
  }

-- a table goes on over other terms and at another place; if a unit looks, it is its own
pub table_goes_on : (l : StoredLibrary) (w w' : Place) (c c' first : Contents)
    (old new : Lasting) (looker : Option ℕ) → AreLasting l w c first old
    → GoesOn old new old.terms looker → Extends first c'
    → ((n : ℕ) → looker ≡ Some n → w' ≡ place_of (library_of l) n [])
    → AreLasting l w' c' first new
table_goes_on l w w' c c' first old new looker h on stand looks = record {
  each = λ q kept stands. h.each q kept (rw on.slots at stands);
  terms = on.terms ∙ h.terms;
  stand = stand;
  looks = λ n is. looks n (sym on.unit ∙ is);
}
