-- What unfolding keeps: over other things, and with known numbers.
use Rattle.std.specs.Prelude.{ℕ, ◌<◌, map, All}
use Rattle.lk_ask.specs.Sheets.{map_pair, IsKnownPair}
use Rattle.lk_lazy.specs.declared.sheet.LazySheet.{LazySheet}
use Rattle.lk_lazy.specs.declared.sheet.LazySheet.TheVariants.{Passed, Arguments}

abbrev pub map_lazy : {X Y : Type 0} → (X → Y) → LazySheet X → LazySheet Y
map_lazy f Passed = Passed
map_lazy f (Arguments a b ps) = Arguments (f a) (f b) (map (map_pair f) ps)

-- its numbers are below n
abbrev pub IsKnownLazy : ℕ → LazySheet ℕ → Type 0
IsKnownLazy n Passed = Unit {0}
IsKnownLazy n (Arguments a b ps) = (a < n) × (b < n) × All (IsKnownPair n) ps
