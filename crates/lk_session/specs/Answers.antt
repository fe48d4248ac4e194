-- What a reply says, and why a text is refused.
use Rattle.std.specs.Prelude.{◌≡◌, ◌≤◌, ℕ, ◌+◌, ◌<◌, List, [], ◌∷◌, ◌++◌, length, map, slice_get, Some, Err}
use mathlib.Core.List.{IsPrefix}
use Rattle.lk_rulebook.specs.Units.{Library}
use Rattle.lk_verdict.specs.Told.{Verdict, IsPlainVerdict}
use Rattle.lk_verdict.specs.Held.{verdict}
use Rattle.lk_session.specs.declared.view.View.{View}
use Rattle.lk_session.specs.declared.view.Submission.{Submission}
use Rattle.lk_session.specs.declared.reply.Reply.{Reply}
use Rattle.lk_session.specs.declared.found.Offer.{Offer}
use Rattle.lk_session.specs.declared.found.Entered.{Entered}
use Rattle.lk_session.specs.declared.error.SubmitError.{SubmitError}
use Rattle.lk_session.specs.declared.error.SubmitError.TheVariants.{Fault, Full, NoMemory}
use Rattle.lk_session.specs.Rule.{times}
use Rattle.lk_session.specs.Steps.{shown, added}
use Rattle.lk_session.specs.Texts.{Says, units_in, units_of, bytes_of, IsFaultless}
use Rattle.lk_session.specs.Reading.{AreBehind}

-- each is the plain verdict of the unit of its number, or memory; the numbers go on from this one
abbrev pub AreFrom : Library → ℕ → ℕ → List Verdict → Type 0
AreFrom us budget first vs =
    (k : ℕ) (v : Verdict) → slice_get vs k ≡ Some v → IsPlainVerdict us budget (first + k) v

-- The reply to a call, where these submissions stand before it in the history: the plain verdicts,
-- under this budget, of the call's units in the list up to and with it.
pub record IsReply (stated : Says) (budget : ℕ) (earlier : List Submission) (call : Submission)
    (r : Reply) : Type 0 where
  pub first_is : r.first ≡ length (units_of stated earlier)
  pub as_many : length r.verdicts.items ≡ length (units_in stated call.text)
  pub each : AreFrom (units_of stated (earlier ++ call ∷ [])) budget r.first
      (map verdict r.verdicts.items)

-- What is so once a call was added behind these submissions: what its caller had seen begins them,
-- the call is the last of what it has seen now, and its place is one more of its own.
pub record IsAdded (stated : Says) (earlier : List Submission) (call : Submission)
    (before after : View) : Type 0 where
  pub order : IsPrefix before.seen earlier
  pub last : after.seen ≡ earlier ++ call ∷ []
  pub mine : after.mine ≡ before.mine ++ length earlier ∷ []
  pub new_place : times (length earlier) before ≡ 0
  pub rest : after ≡ added call earlier before
  pub faultless : IsFaultless stated call.text
  pub few : length (units_of stated after.seen) ≤ 65536

-- and the reply is right
pub record IsSubmitted (stated : Says) (budget : ℕ) (call : Submission) (before after : View)
    (r : Reply) : Type 0 where
  pub earlier : List Submission
  pub is_added : IsAdded stated earlier call before after
  pub reply : IsReply stated budget earlier call r

-- a text that is to be added
abbrev pub offered : Offer → Submission
offered o = record { tag = o.tag; text = bytes_of o.text }

pub record IsOffer (stated : Says) (o : Offer) : Type 0 where
  pub count : o.count ≡ length (units_in stated (bytes_of o.text))
  pub faultless : IsFaultless stated (bytes_of o.text)

-- what was found under the lock by a call that was added: its first unit, and the texts behind the
-- first ones, so many
pub record IsEntered (stated : Says) (read : ℕ) (call : Submission) (before after : View)
    (e : Entered) : Type 0 where
  pub earlier : List Submission
  pub is_added : IsAdded stated earlier call before after
  pub first_is : e.first ≡ length (units_of stated earlier)
  pub behind : AreBehind stated read after.seen e.texts.items

-- Why a text was not added, and what its caller knows then: of a list that would be too long it has
-- seen the whole, and else nothing changed.
abbrev pub IsRefused : Says → List ℕ → View → View → SubmitError → Type 0
IsRefused stated text before after (Fault f) = (stated text ≡ Err f) × (after ≡ before)
IsRefused stated text before after (Full units) =
    IsFaultless stated text × IsPrefix before.seen after.seen
    × (units ≡ length (units_of stated after.seen))
    × (65536 < units + length (units_in stated text))
    × (after ≡ shown after.seen before)
IsRefused stated text before after NoMemory = after ≡ before
