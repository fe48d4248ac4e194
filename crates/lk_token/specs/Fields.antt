-- The fields of a line, and the raw text behind the third of them.
use Rattle.std.specs.Prelude.{◌≡◌, ℕ, ◌==◌, List, [], ◌∷◌, length, filter, drop, nat_lt, if◌then◌else◌}
use Rattle.std.specs.List.{slice_split, position_or_len}

-- the pieces between spaces, but for the empty ones, so that runs of spaces part the fields and
-- spaces at either end count for nothing
unfoldable pub fields_of : List ℕ → List (List ℕ)
fields_of bytes = filter (λ field. nat_lt 0 (length field)) (slice_split (λ b. b == 32) bytes)

-- there is a first field, which begins with this byte
abbrev pub BeginsWith : ℕ → List (List ℕ) → Type 0
BeginsWith b fields = (field : List ℕ) × (more : List (List ℕ)) × (fields ≡ (b ∷ field) ∷ more)

-- the bytes from the first one on that is no space
abbrev pub skip_spaces : List ℕ → List ℕ
skip_spaces [] = []
skip_spaces (b ∷ bytes) = if b == 32 then skip_spaces bytes else b ∷ bytes

-- the bytes from the first space on
abbrev pub skip_field : List ℕ → List ℕ
skip_field bytes = drop (position_or_len (λ b. b == 32) bytes) bytes

-- all bytes behind the third field and the one space that ends it
unfoldable pub text_behind : List ℕ → List ℕ
text_behind bytes =
    drop 1 (skip_field (skip_spaces (skip_field (skip_spaces (skip_field (skip_spaces bytes))))))
