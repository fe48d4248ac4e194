-- What the outcome of a scan says.
use Rattle.std.specs.Prelude.{◌≡◌, Option, Some, None, Result, Ok, Err}
use Rattle.lk_tree.specs.declared.rule.Rule.{Rule}
use Rattle.lk_scan.specs.declared.scan.ScanError.{ScanError}
use Rattle.lk_scan.specs.declared.scan.ScanError.TheVariants as error

-- all is well just where no rule is broken, and an error names the rule that is; want of memory says nothing
abbrev pub IsScan : Option Rule → Result (Unit {0}) ScanError → Type 0
IsScan broken (Ok u) = broken ≡ None
IsScan broken (Err (error.No r)) = broken ≡ Some r
IsScan broken (Err error.NoMemory) = Unit {0}
