-- What callers came to together is what is told.
use Rattle.std.proofs.Common.{◌≡◌, ℕ, ◌<◌, ◌≤◌, true, false, List, length, Result, sym, subst, arith, inl, inr}
use Rattle.std.specs.Prelude.{Vec}
use Rattle.std.specs.declared.alloc.Global.{Global}
use Rattle.std.proofs.lemmas.List.{length-map}
use Rattle.std.proofs.lemmas.Bool.{cases_lt}
use mathlib.Core.List.{IsPrefix}
use Rattle.lk_store.specs.declared.memory.NoMemory.{NoMemory}
use Rattle.lk_session.specs.declared.view.View.{View}
use Rattle.lk_session.specs.Rule.{times}
use Rattle.lk_session.specs.Steps.{HasEach}
use Rattle.lk_session.specs.Texts.{Says, units_of}
use Rattle.lk_callers.specs.declared.turns.Turns.{Turns}
use Rattle.lk_callers.specs.declared.calling.Called.{Called}
use Rattle.lk_callers.specs.declared.report.SessionReport.{SessionReport}
use Rattle.lk_callers.specs.Turns.{AreTurns}
use Rattle.lk_callers.specs.Owned.{all_units, bytes_in, call_of, HasAdded}
use Rattle.lk_callers.specs.Answered.{AreCalled, AreRight, AreWithin, IsGathered}
use Rattle.lk_callers.specs.Reports.{IsListReport, IsSessionReport}
use Rattle.lk_callers.proofs.Owning.{added_grows}
use Rattle.lk_callers.proofs.Replies.{get_within, rights_grow, rights_within}
use Rattle.lk_callers.proofs.Totals.{room_for_all, none_more, none_fewer}
use Rattle.lk_callers.proofs.Wholes.{session_is}

pub all_gathered : {B T : Type 0} (stated : Says) (texts : List (Vec ℕ Global)) (t : Turns) (budget : ℕ) (called : List (Result (Called B T) NoMemory)) (all : Called B T)
    → ((ts : List (List ℕ)) (u : Turns) (b : ℕ) → AreCalled stated ts u b (length ts) called → IsGathered stated ts u b 0 (length called) all)
    → AreCalled stated (bytes_in texts) t budget (length texts) called → length called ≡ t.passes → IsGathered stated (bytes_in texts) t budget 0 t.passes all
all_gathered stated texts t budget called all gathered are n =
    let size : length texts ≡ length (bytes_in texts) = sym (length-map texts (λ (x : Vec ℕ Global). x.items)) in
    subst (λ (h : ℕ). IsGathered stated (bytes_in texts) t budget 0 h all) n
    (gathered (bytes_in texts) t budget (subst (λ (k : ℕ). AreCalled stated (bytes_in texts) t budget k called) size are))

module _ {B T : Type 0} (stated : Says) (texts : List (List ℕ)) (t : Turns) (budget : ℕ) (all : Called B T) (g : IsGathered stated texts t budget 0 t.passes all) where
  pub passes_are : all.pass.known.passes ≡ t.passes
  passes_are = let p = g.passes in omega arith

  pub own_below : (x : ℕ) → 0 < times x all.pass.known → x < length all.pass.known.seen
  own_below x o = let h = g.added.own.each x o in get_within all.pass.known.seen x (call_of texts h.0) h.3.call

  module _ (w : View) (order : IsPrefix all.pass.known.seen w.seen) (mine : w.mine ≡ all.pass.known.mine) (each : HasEach w (length w.seen)) (are : AreTurns t) where
    added : HasAdded stated texts t 0 t.passes (length texts) all.full w
    added = added_grows texts stated t 0 t.passes (length texts) all.full all.pass.known w g.added order mine

    -- a text that found no room has none
    pub too_many : all.full ≡ true → 65536 < length (all_units stated texts)
    too_many full = elim (cases_lt 65536 (length (all_units stated texts))) [
      | inl lt ↦ lt
      | inr few ↦ absurd (room_for_all stated texts t w are added.own each few (added.too_much full))
    ]

    pub no_more : length (units_of stated w.seen) ≤ length (all_units stated texts)
    no_more = none_more stated texts t w are added.own each

    pub no_fewer : all.full ≡ false → length (all_units stated texts) ≤ length (units_of stated w.seen)
    no_fewer ready = none_fewer stated texts t w are added.own each (added.all ready)

    pub rights : AreRight stated budget w.seen all.replies.items
    rights = rights_grow stated budget all.pass.known.seen w.seen all.replies.items order g.right

    pub fits : AreWithin (length (units_of stated w.seen)) all.replies.items
    fits = rights_within stated budget w.seen all.replies.items rights

    pub told : all.full ≡ false → (r : SessionReport) → IsListReport stated w.seen budget r → IsSessionReport stated texts t.callers budget r
    told ready r i = session_is stated texts t budget w r are added.own (added.all ready) each i
