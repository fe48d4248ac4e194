-- A line of fields as an item of the file: how it is read, spelled, and what its first fault is.
use Rattle.std.specs.Prelude.{ℕ, ◌≡◌, ◌≢◌, ◌==◌, ◌⊎◌, Bool, true, false, List, [], ◌∷◌, Some, None, Result, Ok, Err, if◌then◌else◌, slice_index, Contains}
use Rattle.std.specs.declared.option.Option.{Option}
use Rattle.lk_lines.specs.declared.words.Word.{Word}
use Rattle.lk_lines.specs.declared.words.Word.TheVariants.{UnknownTag, MissingField, BadWord}
use Rattle.lk_lines.specs.declared.tags.Tag.{Tag}
use Rattle.lk_lines.specs.declared.tags.Tag.TheVariants.{Derivation}
use Rattle.lk_lines.specs.declared.rules.Family.{Family}
use Rattle.lk_lines.specs.declared.rules.RuleTag.{RuleTag}
use Rattle.lk_lines.specs.declared.tags.Dialect.{Dialect}
use Rattle.lk_lines.specs.Values.{Value, OfRule}
use Rattle.lk_lines.specs.Rules.{rule_word, rules_of, rule_at, rule_dues}
use Rattle.lk_lines.specs.Table.{dues_of}
use Rattle.lk_lines.specs.Tags.{tag_word, numbered_tags, plain_tags, find_tag}
use Rattle.lk_lines.specs.Reading.{◌>>=◌, number_at, read_dues}
use Rattle.lk_lines.specs.Spelling.{SpellsDues, FirstFault, FirstNumber, NoFirstNumber}

-- what a line says that is neither blank nor the version: the number that it defines, where its tag
-- has one in front, the tag, and the values behind the tag
pub record Item : Type 0 where
  pub own : Option ℕ
  pub tag : Tag
  pub values : List Value

-- the tag that the first field is, and the fields behind it
unfoldable pub tag_at : List Tag → List (List ℕ) → Result (Tag × List (List ℕ)) Word
tag_at tags [] = Err MissingField
tag_at tags (field ∷ fields) = find_tag tags field >>= λ t. Ok (t, fields)

-- the values behind the tag of a derivation: its rule, and what is due behind that
abbrev pub derivation_at : ℕ → Family → List ℕ → List (List ℕ) → Result (List Value) Word
derivation_at limit f text fields = rule_at f fields >>= λ r.
    (read_dues limit (rule_dues r.0) text r.1 >>= λ values. Ok (OfRule r.0 ∷ values))

-- the values behind a tag
abbrev pub values_at : ℕ → Tag → List ℕ → List (List ℕ) → Result (List Value) Word
values_at limit (Derivation f) text fields = derivation_at limit f text fields
values_at limit t text fields = read_dues limit (dues_of t) text fields

-- what a line says behind its tag, with the number that it defines
abbrev pub item_behind : ℕ → Option ℕ → Tag → List ℕ → List (List ℕ) → Result Item Word
item_behind limit own t text fields = values_at limit t text fields
    >>= λ values. Ok (record { own = own; tag = t; values = values })

-- a line that defines a number
unfoldable pub numbered_at : ℕ → Dialect → List ℕ → List (List ℕ) → Result Item Word
numbered_at limit dialect text fields = number_at MissingField limit fields >>= λ n.
    (tag_at (numbered_tags dialect) n.1 >>= λ t. item_behind limit (Some n.0) t.0 text t.1)

-- a line that begins with its tag
unfoldable pub plain_at : ℕ → Dialect → List ℕ → List (List ℕ) → Result Item Word
plain_at limit dialect text fields =
    tag_at (plain_tags dialect) fields >>= λ t. item_behind limit None t.0 text t.1

-- the field begins with '#'
abbrev pub is_tag : List ℕ → Bool
is_tag field = slice_index field 0 == 35

-- what the fields of a line say: a first field with '#' in front is a tag, and any other is to be a
-- number
unfoldable pub item_at : ℕ → Dialect → List ℕ → List (List ℕ) → Result Item Word
item_at limit dialect text [] = Err MissingField
item_at limit dialect text (field ∷ fields) =
    if is_tag field then plain_at limit dialect text (field ∷ fields)
    else numbered_at limit dialect text (field ∷ fields)

-- the fields spell a rule of the family and the values behind it
abbrev pub SpellsDerivation : ℕ → Family → List Value → List ℕ → List (List ℕ) → Type 0
SpellsDerivation limit f values text fields = (r : RuleTag) × Contains (rules_of f) r
    × (more : List (List ℕ)) × (fields ≡ rule_word r ∷ more) × (rest : List Value)
    × (values ≡ OfRule r ∷ rest) × SpellsDues limit (rule_dues r) text more rest

-- the fields spell the values behind a tag
abbrev pub SpellsValues : ℕ → Tag → List Value → List ℕ → List (List ℕ) → Type 0
SpellsValues limit (Derivation f) values text fields = SpellsDerivation limit f values text fields
SpellsValues limit t values text fields = SpellsDues limit (dues_of t) text fields values

-- The fields spell a tag of these and the values behind it.
abbrev pub SpellsTagged : ℕ → List Tag → Tag → List Value → List ℕ → List (List ℕ) → Type 0
SpellsTagged limit tags t values text fields = Contains tags t × (more : List (List ℕ))
    × (fields ≡ tag_word t ∷ more) × SpellsValues limit t values text more

-- the same behind the number that the line defines, or without one
abbrev pub SpellsOwn : ℕ → Dialect → Option ℕ → Tag → List Value → List ℕ → List (List ℕ) → Type 0
SpellsOwn limit dialect (Some own) t values text fields = (more : List (List ℕ))
    × FirstNumber limit fields own more
    × SpellsTagged limit (numbered_tags dialect) t values text more
SpellsOwn limit dialect None t values text fields =
    SpellsTagged limit (plain_tags dialect) t values text fields

-- the fields of a line spell the item
abbrev pub SpellsItem : ℕ → Dialect → Item → List ℕ → List (List ℕ) → Type 0
SpellsItem limit dialect item text fields =
    SpellsOwn limit dialect item.own item.tag item.values text fields

-- the rule is missing or none of the family, or behind it comes the first fault
abbrev pub DerivationFault : ℕ → Family → List ℕ → List (List ℕ) → Word → Type 0
DerivationFault limit f text [] w = w ≡ MissingField
DerivationFault limit f text (field ∷ fields) w =
    ((w ≡ BadWord) × ((r : RuleTag) → Contains (rules_of f) r → field ≢ rule_word r))
    ⊎ ((r : RuleTag) × Contains (rules_of f) r × (field ≡ rule_word r)
    × FirstFault limit (rule_dues r) text fields w)

-- the first fault behind a tag
abbrev pub ValuesFault : ℕ → Tag → List ℕ → List (List ℕ) → Word → Type 0
ValuesFault limit (Derivation f) text fields w = DerivationFault limit f text fields w
ValuesFault limit t text fields w = FirstFault limit (dues_of t) text fields w

-- the first of the fields is missing or no tag of these, or behind it comes the first fault
abbrev pub TagFault : ℕ → List Tag → List ℕ → List (List ℕ) → Word → Type 0
TagFault limit tags text [] w = w ≡ MissingField
TagFault limit tags text (field ∷ fields) w =
    ((w ≡ UnknownTag) × ((t : Tag) → Contains tags t → field ≢ tag_word t))
    ⊎ ((t : Tag) × Contains tags t × (field ≡ tag_word t) × ValuesFault limit t text fields w)

-- the first fault of the fields of a line; a line without fields is blank and has none
abbrev pub ItemFault : ℕ → Dialect → List ℕ → List (List ℕ) → Word → Type 0
ItemFault limit dialect text [] w = ⊥
ItemFault limit dialect text (field ∷ fields) w =
    ((is_tag field ≡ true) × TagFault limit (plain_tags dialect) text (field ∷ fields) w)
    ⊎ ((is_tag field ≡ false) × (NoFirstNumber MissingField limit (field ∷ fields) w
    ⊎ ((own : ℕ) × (more : List (List ℕ)) × FirstNumber limit (field ∷ fields) own more
    × TagFault limit (numbered_tags dialect) text more w)))
