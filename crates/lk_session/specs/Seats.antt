-- The seat of a pass and that of the book.
use Rattle.std.specs.Prelude.{◌≡◌, ℕ, ◌<◌, ◌≤◌, false, List, [], length, map, Some, None}
use Rattle.std.specs.declared.option.Option.{Option}
use Rattle.atomic_table.specs.Seated.{TableId}
use Rattle.atomic_table.specs.declared.shared.Seat.{Seat}
use Rattle.lk_session.specs.declared.view.View.{View}
use Rattle.lk_session.specs.declared.mark.Mark.{Mark}
use Rattle.lk_session.specs.Rule.{book_view, spent_view}
use Rattle.lk_session.specs.Texts.{Says, SharedText, bytes_of, texts_of, marks_of, units_of, AreFaultless}

abbrev pub Token : Type 0
Token = Seat ℕ View

-- what a seat knows
abbrev pub known : Token → View
known t = t.me.0

abbrev pub known_of : Option Token → View
known_of None = spent_view
known_of (Some t) = t.me.0

-- the name of no table
abbrev pub no_table : TableId
no_table = record {
  words = 0;
  slots = 0;
  views_name = 0;
  atom = 0;
  block = 0;
  offset = 0;
  slot_names = [];
}

-- a live seat of this table that is no book's
pub record IsCaller (table : TableId) (t : Token) : Type 0 where
  pub of : t.table_id ≡ table
  pub hand : t.me.1 ≡ []
  pub pass : t.me.0.keeps ≡ false
  pub alive : 0 < t.me.0.passes
  pub whole : t.me.0.pending ≡ 0

abbrev pub IsPass : TableId → Option Token → Type 0
IsPass table seat = (t : Token) × (seat ≡ Some t) × IsCaller table t

-- What lies under the lock: the book's seat, and of the list that it has seen the texts, what is
-- told of each submission, and how many units there are.
pub record IsBook (table : TableId) (stated : Says) (t : Token) (texts : List SharedText)
    (marks : List Mark) (units : ℕ) : Type 0 where
  pub of : t.table_id ≡ table
  pub view : t.me ≡ (book_view t.me.0.seen, [])
  pub texts_are : map bytes_of texts ≡ texts_of t.me.0.seen
  pub marks_are : marks ≡ marks_of stated 0 t.me.0.seen
  pub units_are : units ≡ length (units_of stated t.me.0.seen)
  pub few : units ≤ 65536
  pub faultless : AreFaultless stated (texts_of t.me.0.seen)
