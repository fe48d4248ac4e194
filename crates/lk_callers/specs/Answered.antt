-- What callers were told of their texts.
use Rattle.std.specs.Prelude.{◌≡◌, ℕ, ◌+◌, ◌<◌, ◌≤◌, false, List, [], Result, IfOk, All, length, map, slice_index_or}
use Rattle.lk_store.specs.declared.memory.NoMemory.{NoMemory}
use Rattle.lk_verdict.specs.Held.{verdict}
use Rattle.lk_session.specs.declared.view.Submission.{Submission}
use Rattle.lk_session.specs.declared.reply.Reply.{Reply}
use Rattle.lk_session.specs.declared.view.View.{View}
use Rattle.lk_session.specs.Texts.{Says, units_of}
use Rattle.lk_session.specs.Answers.{AreFrom}
use Rattle.lk_callers.specs.declared.turns.Turns.{Turns}
use Rattle.lk_callers.specs.declared.calling.Called.{Called}
use Rattle.lk_callers.specs.Owned.{HasAdded}

-- the verdicts of a reply are the plain ones of the units that they are said of in this list, or
-- memory
pub record IsRight (stated : Says) (budget : ℕ) (list : List Submission) (r : Reply) : Type 0 where
  pub within : r.first + length r.verdicts.items ≤ length (units_of stated list)
  pub each : AreFrom (units_of stated list) budget r.first (map verdict r.verdicts.items)

abbrev pub AreRight : Says → ℕ → List Submission → List Reply → Type 0
AreRight stated budget list replies = All (IsRight stated budget list) replies

-- the units that replies tell of are below this number
abbrev pub AreWithin : ℕ → List Reply → Type 0
AreWithin count replies = All (λ (r : Reply). r.first + length r.verdicts.items ≤ count) replies

-- what the pass of this number came to, once its texts below this number had their turn
pub record IsCalled {B T : Type 0} (stated : Says) (texts : List (List ℕ)) (t : Turns)
    (budget below number : ℕ) (c : Called B T) : Type 0 where
  pub number_is : c.number ≡ number
  pub passes : c.pass.known.passes ≡ 1
  pub added : HasAdded stated texts t number (number + 1) below c.full c.pass.known
  pub right : AreRight stated budget c.pass.known.seen c.replies.items

-- what each pass came to, unless it wanted memory
abbrev pub AreCalled : {B T : Type 0} → Says → List (List ℕ) → Turns → ℕ → ℕ
    → List (Result (Called B T) NoMemory) → Type 0
AreCalled {B} {T} stated texts t budget below rs =
    (i : ℕ) (d : Result (Called B T) NoMemory) → i < length rs
    → IfOk (slice_index_or rs i d) (IsCalled stated texts t budget below i)

-- a view of one pass that has added nothing
abbrev pub IsIdle : View → Type 0
IsIdle v = (v.mine ≡ []) × (v.passes ≡ 1)

-- a pass that has added no text, of this number
pub record IsNew {B T : Type 0} (number : ℕ) (c : Called B T) : Type 0 where
  pub number_is : c.number ≡ number
  pub idle : IsIdle c.pass.known
  pub replies : c.replies.items ≡ []
  pub not_full : c.full ≡ false

-- new passes, each at the place of its number
abbrev pub AreNew : {B T : Type 0} → List (Called B T) → Type 0
AreNew {B} {T} cs = (i : ℕ) (d : Called B T) → i < length cs → IsNew i (slice_index_or cs i d)

-- what the passes of these numbers came to together, once all their texts had their turn
pub record IsGathered {B T : Type 0} (stated : Says) (texts : List (List ℕ)) (t : Turns)
    (budget low high : ℕ) (c : Called B T) : Type 0 where
  pub added : HasAdded stated texts t low high (length texts) c.full c.pass.known
  pub right : AreRight stated budget c.pass.known.seen c.replies.items
  pub passes : c.pass.known.passes + low ≡ high
