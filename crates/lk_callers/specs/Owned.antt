-- What passes know of the texts that they added.
use Rattle.std.specs.Prelude.{◌≡◌, ℕ, ◌+◌, ◌<◌, Bool, true, false, List, [], length, map, get_or, slice_get, Some}
use Rattle.std.specs.Prelude.{Vec}
use Rattle.std.specs.List.{flat_map}
use Rattle.std.specs.declared.alloc.Global.{Global}
use Rattle.lk_rulebook.specs.Units.{Library}
use Rattle.lk_session.specs.declared.view.View.{View}
use Rattle.lk_session.specs.declared.view.Submission.{Submission}
use Rattle.lk_session.specs.Rule.{times}
use Rattle.lk_session.specs.Texts.{Says, units_in, units_of}
use Rattle.lk_callers.specs.declared.turns.Turns.{Turns}
use Rattle.lk_callers.specs.Turns.{pass_of, IsTurnOf}

-- the bytes of each text
abbrev pub bytes_in : List (Vec ℕ Global) → List (List ℕ)
bytes_in texts = map (λ (t : Vec ℕ Global). t.items) texts

abbrev pub text_at : List (List ℕ) → ℕ → List ℕ
text_at texts k = get_or texts k []

-- the units of all texts
abbrev pub all_units : Says → List (List ℕ) → Library
all_units stated texts = flat_map (units_in stated) texts

-- the call that adds text k, with its number as the tag
abbrev pub call_of : List (List ℕ) → ℕ → Submission
call_of texts k = record { tag = k; text = text_at texts k }

-- one of the pass's own submissions stands at this place of the list, and it is that of text k
pub record HasTextAt (texts : List (List ℕ)) (v : View) (place k : ℕ) : Type 0 where
  pub own : 0 < times place v
  pub call : slice_get v.seen place ≡ Some (call_of texts k)

-- Each own submission is that of a text below this number whose turn is with these passes; and of
-- two that one pass adds, the later one has the greater number.
pub record AreOwn (texts : List (List ℕ)) (t : Turns) (low high below : ℕ) (v : View) : Type 0
  where
    pub each : (x : ℕ) → 0 < times x v
        → (k : ℕ) × (k < below) × IsTurnOf t low high k × HasTextAt texts v x k
    pub rise : (x y k m : ℕ) → HasTextAt texts v x k → HasTextAt texts v y m → x < y
        → pass_of t k ≡ pass_of t m → k < m

-- all texts below this number whose turn is with these passes
abbrev pub HasAll : List (List ℕ) → Turns → ℕ → ℕ → ℕ → View → Type 0
HasAll texts t low high below v =
    (k : ℕ) → k < below → IsTurnOf t low high k → (x : ℕ) × HasTextAt texts v x k

-- one of these texts is not among its own, and with it the list would have too many units
pub record FoundNoRoom (stated : Says) (texts : List (List ℕ)) (t : Turns) (low high : ℕ) (v : View)
    : Type 0 where
  pub text : ℕ
  pub within : text < length texts
  pub turn : IsTurnOf t low high text
  pub not_own : (x : ℕ) → HasTextAt texts v x text → ⊥
  pub too_many : 65536 < length (units_of stated v.seen)
      + length (units_in stated (text_at texts text))

-- What these passes came to, once their texts below this number had their turn: unless the list
-- was full, all of them are in it.
pub record HasAdded (stated : Says) (texts : List (List ℕ)) (t : Turns) (low high below : ℕ)
    (full : Bool) (v : View) : Type 0 where
  pub own : AreOwn texts t low high below v
  pub all : full ≡ false → HasAll texts t low high below v
  pub too_much : full ≡ true → FoundNoRoom stated texts t low high v
