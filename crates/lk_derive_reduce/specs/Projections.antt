-- What a run of Core of a projection says.
use Rattle.std.specs.Prelude.{ℕ, ◌≡◌, ◌<◌, ◌≤◌, ◌+◌, [], ◌∷◌, Option, Some, None}
use Rattle.lk_tree.specs.Tree.{Name, Tree, proj}
use Rattle.lk_tree.specs.WellFormed.{IsWellFormed}
use Rattle.lk_rulebook.specs.Place.{Place}
use Rattle.lk_rulebook.specs.Claims.{reduces}
use Rattle.lk_questions.specs.Query.{core}
use Rattle.lk_questions.specs.Erased.{a_tree, erased}
use Rattle.lk_written.specs.Line.{field_rule}
use Rattle.lk_store.specs.Contents.{Contents}
use Rattle.lk_proj.specs.Reductions.{subject_rest}
use Rattle.lk_step.specs.declared.step.Row.{Row}
use Rattle.lk_step.specs.Steps.{reduction, StepHolds}
use Rattle.lk_step.specs.Rows.{IsAnswered}
use Rattle.lk_step.specs.Nexts.{core_asked}
use Rattle.lk_step.specs.Parts.{IsPartIn}

-- e is a projection of s
pub record IsProjOf (e s : Tree) : Type 0 where
  pub structure : Name
  pub field : ℕ
  pub is : e ≡ proj structure field s

-- the field of e whose Core is asked for next, where W is the weak head form of its subject
abbrev pub field_at : Place → Option ℕ → Tree → Tree → Option Tree
field_at w last e W = core_asked (erased w a_tree last (subject_rest e W))

-- Core of e, a projection of s, is v: that of its field, to which it reduces by the weak head form W
-- of s, or e itself
abbrev pub Picks : Place → Tree → Tree → Tree → Tree → ℕ → Option Tree → Type 0
Picks w e s W v n (Some x) =
    IsAnswered w (core x) v n × IsWellFormed x
    × StepHolds w (reduction field_rule e x (reduces s W ∷ []))
Picks w e s W v n None = v ≡ e

-- the row states the weak head form W of the subject s of e; what Core of e does behind it
pub record AtSubject (w : Place) (d : Contents) (r : Row) (most : ℕ) (e s W : Tree)
    (field : Option Tree) : Type 0 where
  pub value : Tree
  pub cost : ℕ
  pub answered : IsAnswered w (core e) value cost
  pub within : cost ≤ most
  pub fine : IsWellFormed e
  pub first : ℕ
  pub second : ℕ
  pub paid : first + second < cost
  pub part : IsPartIn w d r (reduces s W ∷ []) first
  pub picks : Picks w e s W value second field
