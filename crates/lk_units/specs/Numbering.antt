-- What a numbering of the file has under a number.
use Rattle.std.specs.Prelude.{ℕ, Some, None, nat_eq, slice_get}
use Rattle.std.specs.declared.option.Option.{Option}
use Rattle.std.specs.HashMap.{get}
use Rattle.lk_units.specs.declared.numbering.Numbering.{Numbering}

-- what is there, or else the other
abbrev pub or_else : Option ℕ → Option ℕ → Option ℕ
or_else (Some i) other = Some i
or_else None other = other

-- the list of low numbers has it, or else the map
unfoldable pub entry : Numbering → ℕ → Option ℕ
entry t n = or_else (slice_get t.low.items n) (get nat_eq t.map n)
