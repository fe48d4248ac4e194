-- How far a loop over digits has come.
use Rattle.std.proofs.Common.{◌≡◌, ◌≤◌, ℕ, List, length}
use Rattle.std.specs.Str.Parse.{AllDigits, digits_value_after}
use Rattle.lk_num.specs.declared.numeral.Nat.{Nat}
use Rattle.lk_num.specs.Numeral.{IsNat}

-- before the rest stand digits, which make this number of the one that came before all bytes
pub record Reads (bytes rest : List ℕ) (before value : ℕ) : Type 0 where
  pub below : length rest ≤ length bytes
  pub same : digits_value_after 10 value rest ≡ digits_value_after 10 before bytes
  pub all : AllDigits 10 rest → AllDigits 10 bytes
  pub only : AllDigits 10 bytes → AllDigits 10 rest

-- the same of a number that may be wide
pub record ReadsNat (bytes rest : List ℕ) (before number : Nat) : Type 0 where
  pub follows : (value : ℕ) → IsNat before value → (now : ℕ) × IsNat number now × (digits_value_after 10 now rest ≡ digits_value_after 10 value bytes)
  pub all : AllDigits 10 rest → AllDigits 10 bytes
  pub only : AllDigits 10 bytes → AllDigits 10 rest
