-- Fields of two hexadecimal digits each, and the bytes that they spell.
use Rattle.std.specs.Prelude.{◌≡◌, ℕ, ◌*◌, ◌+◌, true, List, [], ◌∷◌, Some, None, ◌&&◌, if◌then◌else◌}
use Rattle.std.specs.declared.option.Option.{Option}
use Rattle.std.specs.Char.{is_ascii_hexdigit, digit_value}

-- the field is two hexadecimal digits of either case, which write this byte
abbrev pub IsPair : List ℕ → ℕ → Type 0
IsPair field b = (high : ℕ) × (low : ℕ) × (field ≡ high ∷ low ∷ [])
    × (is_ascii_hexdigit high ≡ true) × (is_ascii_hexdigit low ≡ true)
    × (b ≡ digit_value high * 16 + digit_value low)

-- each field is a pair, of these bytes in turn
abbrev pub ArePairs : List (List ℕ) → List ℕ → Type 0
ArePairs [] [] = Unit {0}
ArePairs [] (b ∷ bytes) = ⊥
ArePairs (field ∷ fields) [] = ⊥
ArePairs (field ∷ fields) (b ∷ bytes) = IsPair field b × ArePairs fields bytes

-- the byte of a field of two hexadecimal digits
abbrev pub pair_of : List ℕ → Option ℕ
pair_of [] = None
pair_of (a ∷ []) = None
pair_of (a ∷ b ∷ []) =
    if is_ascii_hexdigit a && is_ascii_hexdigit b then Some (digit_value a * 16 + digit_value b)
    else None
pair_of (a ∷ b ∷ c ∷ more) = None

abbrev pub cons_pair : Option ℕ → Option (List ℕ) → Option (List ℕ)
cons_pair None more = None
cons_pair (Some b) None = None
cons_pair (Some b) (Some bytes) = Some (b ∷ bytes)

-- the bytes of all fields, where each is a pair
abbrev pub pairs_of : List (List ℕ) → Option (List ℕ)
pairs_of [] = Some []
pairs_of (field ∷ fields) = cons_pair (pair_of field) (pairs_of fields)
