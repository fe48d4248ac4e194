-- How the verdicts that are found stand to the plain ones.
use Rattle.std.specs.Prelude.{◌≡◌, ◌⊎◌, Result, Ok, Err}
use Rattle.lk_ask.specs.declared.stop.Stop.{Stop}
use Rattle.lk_ask.specs.declared.stop.Stop.TheVariants as stop
use Rattle.lk_scan.specs.declared.scan.ScanError.{ScanError}
use Rattle.lk_scan.specs.declared.scan.ScanError.TheVariants as error
use Rattle.lk_verdict.specs.Told.{Verdict, out_of_memory}
use Rattle.lk_verdict.specs.declared.verdict.Verdict.{Verdict as HeldVerdict}
use Rattle.lk_verdict.specs.declared.verdict.Verdict.TheVariants.{Yes, No, Steps, Memory}
use Rattle.lk_verdict.specs.Held.{verdict}

-- the plain verdict, or memory in its place
abbrev pub IsPlain : Verdict → HeldVerdict → Type 0
IsPlain plain v = (verdict v ≡ plain) ⊎ (verdict v ≡ out_of_memory)

-- the verdict of a unit that breaks a rule by its own lines
abbrev pub scan_verdict : ScanError → HeldVerdict
scan_verdict (error.No r) = No r
scan_verdict error.NoMemory = Memory

-- the verdict that the outcome of a unit's questions gives
abbrev pub result_verdict : Result (Unit {0}) Stop → HeldVerdict
result_verdict (Ok u) = Yes
result_verdict (Err (stop.No r)) = No r
result_verdict (Err stop.Spent) = Steps
result_verdict (Err stop.NoMemory) = Memory
