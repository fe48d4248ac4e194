-- The kinds of step: what each changes, and what it tells the seat that steps.
use Rattle.std.specs.Prelude.{◌≡◌, ℕ, ◌+◌, ◌-◌, ◌≤◌, true, false, List, [], ◌∷◌, ◌++◌, All, length, nat_lt, slice_set, if◌then◌else◌}
use mathlib.Core.List.{IsPrefix}
use Rattle.atomic_table.specs.Table.{Me, Step}
use Rattle.lk_session.specs.declared.view.View.{View}
use Rattle.lk_session.specs.declared.view.Submission.{Submission}
use Rattle.lk_session.specs.Rule.{Session, call_word, pass_word, spent_view, book_view, pass_view, times, once_below}

-- a session with another number in a word, and another view of a seat
abbrev pub with_word : Session → ℕ → ℕ → ℕ → View → Session
with_word s i n id w =
    record { words = slice_set s.words i n; homes = s.homes; views = slice_set s.views id w }

-- Meet: the book's view takes in a pass, and notes what it had seen
abbrev pub met : View → View → View
met v w = record {
  keeps = v.keeps;
  seen = v.seen;
  mine = v.mine ++ w.mine;
  olds = w.seen ∷ v.olds;
  refusals = w.refusals + v.refusals;
  passes = w.passes + v.passes;
  pending = w.pending + v.pending;
}

-- what a caller knows once it was shown the list
abbrev pub shown : List Submission → View → View
shown list v = record v { seen = list; olds = v.seen ∷ [] }

-- and once a call of its own was added to it
abbrev pub added : Submission → List Submission → View → View
added call list v = record v {
  seen = list ++ call ∷ [];
  mine = v.mine ++ length list ∷ [];
  olds = v.seen ∷ [];
}

-- Count: the call is the list's last, and its place the view's own
abbrev pub counted : Submission → ℕ → View → View
counted call found v = record v { seen = v.seen ++ call ∷ []; mine = v.mine ++ found ∷ [] }

-- Part: the pass comes out again, with all that it brought and the list as it is
abbrev pub left_alone : View → View
left_alone v = book_view v.seen

abbrev pub parted : View → View
parted v = record v { keeps = false }

-- Split: a pass is counted, or its refusal noted
abbrev pub asked : ℕ → View → View
asked found v =
    if nat_lt found 65536 then record v { pending = v.pending + 1 }
    else record v { refusals = v.refusals + 1 }

-- and the pass that was counted comes
abbrev pub cut : View → View
cut v = record v { pending = v.pending - 1 }

abbrev pub newcomer : View → View
newcomer v = pass_view v.seen

-- Join: the longer of what both have seen
abbrev pub longer : List Submission → List Submission → List Submission
longer xs ys = if nat_lt (length xs) (length ys) then ys else xs

abbrev pub both_views : View → View → View
both_views v w = record {
  keeps = v.keeps;
  seen = longer v.seen w.seen;
  mine = v.mine ++ w.mine;
  olds = v.seen ∷ w.seen ∷ [];
  refusals = v.refusals + w.refusals;
  passes = v.passes + w.passes;
  pending = v.pending + w.pending;
}

-- all that the view had seen before are beginnings of what it has seen
abbrev pub InOrder : View → Type 0
InOrder v = All (λ o. IsPrefix o v.seen) v.olds

-- each of its own places is below this number, and stands once
abbrev pub AreOnce : View → ℕ → Type 0
AreOnce v n = (x : ℕ) → times x v ≤ once_below x n

-- it has each place below this number, once, and no other
abbrev pub HasEach : View → ℕ → Type 0
HasEach v n = (x : ℕ) → times x v ≡ once_below x n

-- What each step tells: of the step, the seat before, the number found and the seat after.
-- The book has seen as many submissions as the word says.
abbrev pub Looked : Step ℕ → Me ℕ View → ℕ → Me ℕ View → Type 0
Looked step me found after =
    (after ≡ me) × InOrder me.0 × (me.0.keeps ≡ true → length me.0.seen ≡ found)
    × AreOnce me.0 found

abbrev pub Counted : Submission → Step ℕ → Me ℕ View → ℕ → Me ℕ View → Type 0
Counted call step me found after =
    (after ≡ (counted call found me.0, me.1)) × InOrder me.0 × (length me.0.seen ≡ found)
    × AreOnce me.0 found

-- A look at the second word by the book, once a pass is in it: the pass came from no more passes
-- than were made, and where it came from them all each submission is its own.
abbrev pub Told : Step ℕ → Me ℕ View → ℕ → Me ℕ View → Type 0
Told step me found after =
    (after ≡ me) × (me.0.passes ≤ found)
    × (me.0.keeps ≡ true → me.0.passes ≡ found → HasEach me.0 (length me.0.seen))

abbrev pub Asked : Step ℕ → Me ℕ View → ℕ → Me ℕ View → Type 0
Asked step me found after = after ≡ (asked found me.0, me.1)

-- What each kind does to the session.
abbrev pub after_meet : Session → ℕ → View → ℕ → View → Session
after_meet s id v other w =
    record {
      words = s.words;
      homes = s.homes;
      views = slice_set (slice_set s.views id (met v w)) other spent_view;
    }

abbrev pub after_count : Session → ℕ → View → Submission → Session
after_count s id v call = with_word s 0 (call_word s + 1) id (counted call (call_word s) v)

abbrev pub after_part : Session → ℕ → View → Session
after_part s id v =
    record {
      words = s.words;
      homes = s.homes;
      views = slice_set s.views id (left_alone v) ++ parted v ∷ [];
    }

abbrev pub after_ask : Session → ℕ → View → Session
after_ask s id v = with_word s 1 (pass_word s + 1) id (asked (pass_word s) v)

abbrev pub after_cut : Session → ℕ → View → Session
after_cut s id v =
    record {
      words = s.words;
      homes = s.homes;
      views = slice_set s.views id (cut v) ++ newcomer v ∷ [];
    }

abbrev pub after_join : Session → ℕ → View → ℕ → View → Session
after_join s id v other w =
    record {
      words = s.words;
      homes = s.homes;
      views = slice_set (slice_set s.views id (both_views v w)) other spent_view;
    }
