-- The verdicts of some units of a library.
use Rattle.std.specs.Prelude.{ℕ, ◌≡◌, List, Result, Vec, length, slice_get, Some}
use Rattle.std.specs.declared.alloc.Global.{Global}
use Rattle.lk_rulebook.specs.Units.{Library}
use Rattle.lk_store.specs.declared.memory.NoMemory.{NoMemory}
use Rattle.lk_verdict.specs.Told.{Verdict, IsPlainVerdict}
use Rattle.lk_verdict.specs.declared.verdict.Verdict.{Verdict as HeldVerdict}

-- each verdict is the plain one of the unit whose number stands at its place, or memory
pub record AreChecked (us : Library) (budget : ℕ) (numbers : List ℕ) (vs : List Verdict)
    : Type 0 where
  pub as_many : length vs ≡ length numbers
  pub each : (i n : ℕ) (v : Verdict) → slice_get numbers i ≡ Some n → slice_get vs i ≡ Some v
      → IsPlainVerdict us budget n v

-- what is answered when units are handed on to be checked
abbrev pub Answer : Type 0
Answer = Result (Vec HeldVerdict Global) NoMemory
