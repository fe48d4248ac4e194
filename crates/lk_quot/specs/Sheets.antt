-- What Core of a constant of quotient types keeps: over other things, and with known numbers.
use Rattle.std.specs.Prelude.{ℕ, ◌<◌}
use Rattle.lk_quot.specs.declared.sheet.QuotSheet.{QuotSheet}
use Rattle.lk_quot.specs.declared.sheet.QuotSheet.TheVariants.{Passed, Major}

abbrev pub map_quot_sheet : {X Y : Type 0} → (X → Y) → QuotSheet X → QuotSheet Y
map_quot_sheet f Passed = Passed
map_quot_sheet f (Major e) = Major (f e)

-- its numbers are below n
abbrev pub IsKnownQuotSheet : ℕ → QuotSheet ℕ → Type 0
IsKnownQuotSheet n Passed = Unit {0}
IsKnownQuotSheet n (Major e) = e < n
