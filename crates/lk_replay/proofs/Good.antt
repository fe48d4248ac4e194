-- A unit whose section holds is derived.
use Rattle.std.proofs.Common.{◌≡◌, ℕ, [], Result, Ok, Err, sym, ap, ◌∙◌}
use Rattle.std.specs.Prelude.{IfOk}
use Rattle.lk_rulebook.specs.Units.{place_of}
use Rattle.lk_questions.specs.Sound.{IsSoundPlace}
use Rattle.lk_written.specs.Outcomes.{section_of, outcome_of, holds}
use Rattle.lk_written_sound.proofs.Outcomes.{said_held}
use Rattle.lk_written_sound.proofs.Units.{unit_derived}
use Rattle.lk_store.specs.declared.memory.NoMemory.{NoMemory}
use Rattle.lk_env.specs.Units.{library_of}
use Rattle.lk_trace.specs.declared.outcome.Outcome.{Outcome}
use Rattle.lk_trace.specs.declared.outcome.Outcome.TheVariants as told
use Rattle.lk_trace.specs.declared.traced.Traced.{Traced}
use Rattle.lk_trace.specs.Files.{sections_of, outcome_in}
use Rattle.lk_trace.specs.Outcomes.{outcome_at}
use Rattle.lk_replay.specs.Derived.{IsDerivedUnit}

module _ (t : Traced) (n : ℕ) where
  derived_ok : (o : Outcome) → outcome_at o ≡ outcome_in t n → o ≡ told.Ok
      → IsSoundPlace (place_of (library_of t.library) n []) → IsDerivedUnit (library_of t.library) n
  derived_ok o is e ok =
      let us = library_of t.library in
      let said : outcome_of us (sections_of t) n ≡ holds = sym is ∙ ap outcome_at e in
      let held = said_held us (sections_of t) n said in
      unit_derived us n (section_of held.0) ok held.2

  pub derived_if : (r : Result Outcome NoMemory) → IfOk r (λ o. outcome_at o ≡ outcome_in t n)
      → IfOk r (λ o. o ≡ told.Ok → IsSoundPlace (place_of (library_of t.library) n [])
      → IsDerivedUnit (library_of t.library) n)
  derived_if (Ok o) is = derived_ok o is
  derived_if (Err e) is = tt
