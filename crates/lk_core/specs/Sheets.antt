-- What the weak head forms keep: over other things, and with known numbers.
use Rattle.std.specs.Prelude.{ℕ, ◌<◌}
use Rattle.lk_lit.specs.Sheets.{map_lit, IsKnownLit}
use Rattle.lk_core.specs.declared.sheet.CoreSheet.{CoreSheet}
use Rattle.lk_core.specs.declared.sheet.CoreSheet.TheVariants.{Passed, Head, WhnfCore, Literal}

abbrev pub map_core : {X Y : Type 0} → (X → Y) → CoreSheet X → CoreSheet Y
map_core f Passed = Passed
map_core f (Head e) = Head (f e)
map_core f WhnfCore = WhnfCore
map_core f (Literal s) = Literal (map_lit f s)

-- its numbers are below n
abbrev pub IsKnownCore : ℕ → CoreSheet ℕ → Type 0
IsKnownCore n Passed = Unit {0}
IsKnownCore n (Head e) = e < n
IsKnownCore n WhnfCore = Unit {0}
IsKnownCore n (Literal s) = IsKnownLit n s
