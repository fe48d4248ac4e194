-- The rule of a session: one list, of which each view has seen a beginning; places once; passes
-- counted.
use Rattle.std.specs.Prelude.{◌≡◌, ℕ, ◌+◌, ◌≤◌, ◌==◌, true, false, min, List, [], All, length, sum_by, count_by, nat_lt, slice_index, if◌then◌else◌}
use mathlib.Core.Option.{some}
use mathlib.Core.List.{IsPrefix}
use lib.ListN.{get_elem?}
use Rattle.atomic_table.specs.Table.{State}
use Rattle.lk_session.specs.declared.view.View.{View}
use Rattle.lk_session.specs.declared.view.Submission.{Submission}

abbrev pub Session : Type 0
Session = State ℕ View

-- the number of submissions, and that of passes made
abbrev pub call_word : Session → ℕ
call_word s = slice_index s.words 0

abbrev pub pass_word : Session → ℕ
pass_word s = slice_index s.words 1

-- the book's view while the lock is free
abbrev pub book_view : List Submission → View
book_view seen = record {
  keeps = true;
  seen = seen;
  mine = [];
  olds = [];
  refusals = 0;
  passes = 0;
  pending = 0;
}

-- a new pass that has seen this list
abbrev pub pass_view : List Submission → View
pass_view seen = record {
  keeps = false;
  seen = seen;
  mine = [];
  olds = [];
  refusals = 0;
  passes = 1;
  pending = 0;
}

-- the view of the first seat: the book's, with the first pass in it
abbrev pub first_view : View
first_view = record {
  keeps = true;
  seen = [];
  mine = [];
  olds = [];
  refusals = 0;
  passes = 1;
  pending = 0;
}

-- the view of a seat that another took in
abbrev pub spent_view : View
spent_view = record {
  keeps = false;
  seen = [];
  mine = [];
  olds = [];
  refusals = 0;
  passes = 0;
  pending = 0;
}

-- how often a place stands among the view's own
abbrev pub times : ℕ → View → ℕ
times x v = count_by (λ y. y == x) v.mine

abbrev pub once_below : ℕ → ℕ → ℕ
once_below x n = if nat_lt x n then 1 else 0

-- What is so of each view, where this is the list.
pub record IsSeated (log : List Submission) (v : View) : Type 0 where
  -- it has seen a beginning of the list, and the book the whole of it
  pub seen : IsPrefix v.seen log
  pub whole : v.keeps ≡ true → v.seen ≡ log
  -- what it had seen before are beginnings of what it has seen
  pub olds : All (λ o. IsPrefix o v.seen) v.olds
  pub refusals : v.refusals ≤ v.passes
  -- one that came from no pass and is not the book's was taken in
  pub spent : v.keeps ≡ false → v.passes ≡ 0 → v ≡ spent_view

pub record IsSession (s : Session) : Type 0 where
  pub words : length s.words ≡ 2
  pub log : List Submission
  -- one live view is the book's
  pub keeper : ℕ
  pub book : (b : View) × (get_elem? s.views keeper ≡ some b) × (b.keeps ≡ true)
  pub only : (id : ℕ) (v : View) → get_elem? s.views id ≡ some v → v.keeps ≡ true → id ≡ keeper
  -- the list has as many submissions as the first word says
  pub count : length log ≡ call_word s
  pub each : (id : ℕ) (v : View) → get_elem? s.views id ≡ some v → IsSeated log v
  -- each place below the first word stands once among the views' own, and no other place does
  pub once : (x : ℕ) → sum_by (times x) s.views ≡ once_below x (call_word s)
  -- the passes that the views came from, with those about to come, are the passes made, and the
  -- second word passes 65,536 by the refusals noted
  pub passes : sum_by (λ v. v.passes + v.pending) s.views ≡ min (pass_word s) 65536
  pub refused : pass_word s ≡ min (pass_word s) 65536 + sum_by (λ v. v.refusals) s.views
