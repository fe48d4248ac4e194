-- Types with one value.
use Rattle.std.specs.Prelude.{◌&&◌, List, Option}
use Rattle.lk_tree.specs.Tree.{Tree}
use Rattle.lk_tree.specs.Spine.{head, args}
use Rattle.lk_rulebook.specs.Place.{Place, Kind}
use Rattle.lk_rulebook.specs.Claims.{Claim}
use Rattle.lk_questions.specs.Tests.{◌>>=◌, test}
use Rattle.lk_questions.specs.Eta.{is_unit_like_at}
use Rattle.lk_written.specs.Premises.{Left, as_const, typed, reduced}
use Rattle.lk_premises.specs.Reading.{ends_equal}

-- b => B, A == B
unfoldable pub typed_alike : List Claim → Left → Tree → Tree → Option (Unit {0})
typed_alike ps js A b = do
  B ← typed ps js b
  ends_equal ps B.1 A B.0

-- the same, where T is of this kind at its head, and has one value
abbrev pub unit_by : List Claim → Left → Tree → Tree → Kind → Tree → Option (Unit {0})
unit_by ps js A T k b = do
  u ← test (is_unit_like_at k (args T))
  typed_alike ps js A b

abbrev pub unit_form : Place → List Claim → Left → Tree → Tree → Tree → Option (Unit {0})
unit_form w ps js A T b = do
  h ← as_const (head T)
  g ← w.means h.0
  unit_by ps js A T g.kind b

-- a => A, A >> T
abbrev pub units_read : Place → List Claim → Left → Tree → Tree → Option (Unit {0})
units_read w ps js a b = do
  A ← typed ps js a
  T ← reduced ps A.1 A.0
  unit_form w ps T.1 A.0 T.0 b
