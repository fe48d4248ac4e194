-- What a numeral of the export format is read as: a number of 128 bits, or one beyond them.
use Rattle.std.specs.Prelude.{◌≡◌, ℕ, ◌≤◌, ◌^◌, Bool, List, length, nat_lt, ◌&&◌, if◌then◌else◌, Some, None}
use Rattle.std.specs.declared.option.Option.{Option}
use Rattle.std.specs.Str.{all_ascii_digits}
use Rattle.std.specs.Str.Parse.{digits_value}
use Rattle.lk_num.specs.declared.numeral.Nat.{Nat}
use Rattle.lk_num.specs.declared.numeral.Nat.TheVariants.{Fits, Wide}

-- n is this number, or says that it takes more than 128 bits
abbrev pub IsNat : Nat → ℕ → Type 0
IsNat (Fits n) value = n ≡ value
IsNat Wide value = 2 ^ 128 ≤ value

-- the one that is this number
abbrev pub nat_from : ℕ → Nat
nat_from value = if nat_lt value (2 ^ 128) then Fits value else Wide

-- one digit or more, and nothing else
abbrev pub is_numeral : List ℕ → Bool
is_numeral bytes = nat_lt 0 (length bytes) && all_ascii_digits bytes

-- the number that the digits write, where there are digits alone
abbrev pub nat_of : List ℕ → Option Nat
nat_of bytes = if is_numeral bytes then Some (nat_from (digits_value 10 bytes)) else None
