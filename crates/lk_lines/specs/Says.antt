-- What the bytes of a line say: nothing, the version, or an item; and how they say it.
use Rattle.std.specs.Prelude.{◌≡◌, ◌≢◌, ◌⊎◌, ℕ, ◌^◌, ◌==◌, ◌++◌, Bool, true, false, List, [], ◌∷◌, Result, Ok, Err, Some, None, if◌then◌else◌}
use Rattle.std.specs.declared.option.Option.{Option}
use Rattle.std.specs.List.{slice_split}
use Rattle.std.specs.Str.Parse.{IsNumeral, digits_value}
use Rattle.lk_num.specs.declared.numeral.Nat.{Nat}
use Rattle.lk_num.specs.declared.numeral.Nat.TheVariants as nats
use Rattle.lk_num.specs.Numeral.{nat_of}
use Rattle.lk_token.specs.Fields.{fields_of, text_behind}
use Rattle.lk_lines.specs.declared.words.Word.{Word}
use Rattle.lk_lines.specs.declared.words.Word.TheVariants.{BadVersion}
use Rattle.lk_lines.specs.declared.tags.Dialect.{Dialect}
use Rattle.lk_lines.specs.declared.tags.Dialect.TheVariants.{Export, Trace}
use Rattle.lk_lines.specs.Reading.{◌>>=◌}
use Rattle.lk_lines.specs.Items.{Item, item_at, SpellsItem, ItemFault}

pub data Says : Type 0 where
  Blank : Says
  Version : Says
  OfItem : Item → Says

-- the first of three numbers, where all three are there
abbrev pub first_of_three : Option Nat → Option Nat → Option Nat → Option Nat
first_of_three None b c = None
first_of_three (Some a) None c = None
first_of_three (Some a) (Some b) None = None
first_of_three (Some a) (Some b) (Some c) = Some a

abbrev pub parts_number : List (List ℕ) → Option Nat
parts_number [] = None
parts_number (a ∷ []) = None
parts_number (a ∷ b ∷ []) = None
parts_number (a ∷ b ∷ c ∷ []) = first_of_three (nat_of a) (nat_of b) (nat_of c)
parts_number (a ∷ b ∷ c ∷ d ∷ more) = None

-- the first number of a version, where the only field is three numbers joined by dots
abbrev pub version_of : List (List ℕ) → Option Nat
version_of [] = None
version_of (field ∷ []) = parts_number (slice_split (λ b. b == 46) field)
version_of (field ∷ more ∷ fields) = None

abbrev pub is_two : Nat → Bool
is_two (nats.Fits n) = n == 2
is_two nats.Wide = false

abbrev pub as_item : Result Item Word → Result Says Word
as_item read = read >>= λ item. Ok (OfItem item)

abbrev pub item_said : ℕ → Dialect → List ℕ → List (List ℕ) → Result Says Word
item_said limit dialect text fields = as_item (item_at limit dialect text fields)

abbrev pub first_said : ℕ → Dialect → Option Nat → List ℕ → List (List ℕ) → Result Says Word
first_said limit dialect (Some n) text fields = if is_two n then Ok Version else Err BadVersion
first_said limit dialect None text fields = item_said limit dialect text fields

unfoldable pub said_at : ℕ → Dialect → Bool → List ℕ → List (List ℕ) → Result Says Word
said_at limit dialect first text [] = Ok Blank
said_at limit dialect first text (field ∷ fields) =
    if first then first_said limit dialect (version_of (field ∷ fields)) text (field ∷ fields)
    else item_said limit dialect text (field ∷ fields)

-- what the bytes of a line say, where only blank lines stand before it or others do, and its
-- numbers are below a limit
unfoldable pub said_below : ℕ → Dialect → Bool → List ℕ → Result Says Word
said_below limit dialect first bytes =
    said_at limit dialect first (text_behind bytes) (fields_of bytes)

-- the same of a line whose numbers have 32 bits, as all have but those behind `#TR`
abbrev pub said_in : Dialect → Bool → List ℕ → Result Says Word
said_in dialect first bytes = said_below (2 ^ 32) dialect first bytes

-- the same in an export
abbrev pub said_of : Bool → List ℕ → Result Says Word
said_of first bytes = said_in Export first bytes

-- what a line behind `#TR` says: its numbers have 64 bits
abbrev pub said_behind_trace : List ℕ → Result Says Word
said_behind_trace bytes = said_below (2 ^ 64) Trace false bytes

-- the only field is three numbers joined by dots, the first of them this one
abbrev pub IsVersion : List (List ℕ) → ℕ → Type 0
IsVersion fields major =
    (a : List ℕ) × (b : List ℕ) × (c : List ℕ) × (fields ≡ (a ++ 46 ∷ (b ++ 46 ∷ c)) ∷ [])
    × IsNumeral 10 a × IsNumeral 10 b × IsNumeral 10 c × (digits_value 10 a ≡ major)

-- the fields of a line, and the text behind the third of them, spell what it says; the first line that is not blank may
-- be a version 2
abbrev pub SpellsFields : ℕ → Dialect → Bool → List ℕ → List (List ℕ) → Says → Type 0
SpellsFields limit dialect first text fields Blank = fields ≡ []
SpellsFields limit dialect first text fields Version = (first ≡ true) × IsVersion fields 2
SpellsFields limit dialect first text fields (OfItem item) =
    SpellsItem limit dialect item text fields

-- the first fault of the fields of a line: it is another version, or it is neither blank nor a version and its fields
-- have this fault first
abbrev pub FieldsFault : ℕ → Dialect → Bool → List ℕ → List (List ℕ) → Word → Type 0
FieldsFault limit dialect first text fields w =
    ((w ≡ BadVersion) × (first ≡ true) × (major : ℕ) × IsVersion fields major × (major ≢ 2))
    ⊎ ((first ≡ true → (major : ℕ) → ¬ (IsVersion fields major))
    × ItemFault limit dialect text fields w)

-- the bytes of a line spell what it says
abbrev pub SpellsSaid : ℕ → Dialect → Bool → List ℕ → Says → Type 0
SpellsSaid limit dialect first bytes says =
    SpellsFields limit dialect first (text_behind bytes) (fields_of bytes) says

-- the first fault of the bytes of a line
abbrev pub SaidFault : ℕ → Dialect → Bool → List ℕ → Word → Type 0
SaidFault limit dialect first bytes w =
    FieldsFault limit dialect first (text_behind bytes) (fields_of bytes) w
