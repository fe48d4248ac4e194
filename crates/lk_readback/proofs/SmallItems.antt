-- The values of an item are what its line spells: numbers below the limits of their fields, and
-- texts that are UTF-8, in a name without a line feed.
use Rattle.std.proofs.Common.{ℕ, ◌≡◌, ◌<◌, ◌^◌, Bool, List, [], ◌∷◌, length, Ok, Some, None, IsUtf8}
use Rattle.std.proofs.Common.{inl, inr}
use Rattle.std.specs.declared.option.Option.{Option}
use Rattle.lk_token.specs.Lines.{HasNoLineFeed}
use Rattle.lk_token.specs.Fields.{fields_of, text_behind}
use Rattle.lk_num.specs.declared.numeral.Nat.{Nat}
use Rattle.lk_num.specs.declared.numeral.Nat.TheVariants as nats
use Rattle.lk_lines.specs.declared.dues.Due.{Due}
use Rattle.lk_lines.specs.declared.dues.Due.TheVariants as due
use Rattle.lk_lines.specs.declared.tags.Dialect.{Dialect}
use Rattle.lk_lines.specs.declared.tags.Tag.{Tag}
use Rattle.lk_lines.specs.declared.tags.Tag.TheVariants as tag
use Rattle.lk_lines.specs.Values.{Value}
use Rattle.lk_lines.specs.Values as value
use Rattle.lk_lines.specs.Table.{dues_of}
use Rattle.lk_lines.specs.Spelling.{IsLiteral, Takes, SpellsDues}
use Rattle.lk_lines.specs.Items.{Item, SpellsOwn, SpellsValues}
use Rattle.lk_lines.specs.Says.{OfItem, said_in}
use Rattle.lk_lines.proofs.LineFeedLaws.{text_has_none, said_spelled}
use Rattle.lk_units.specs.State.{number_literal, hint_said}
use Rattle.lk_readback.specs.Statable.{IsSmall, IsTree, IsHint}

-- the value is one of those that fields spell where this is due
abbrev pub IsDueValue : Due → Value → Type 0
IsDueValue (due.Known k) (value.Number n) = IsSmall n
IsDueValue due.Number (value.Number n) = IsSmall n
IsDueValue due.Long (value.Number n) = n < 2 ^ 64
IsDueValue due.Literal (value.Literal n) = IsTree (number_literal n)
IsDueValue due.Hint (value.OfHint h) = IsHint (hint_said h)
IsDueValue (due.Counted k) (value.Numbers ns) = IsSmall (length ns)
IsDueValue due.Text (value.Bytes bytes) = IsUtf8 bytes × HasNoLineFeed bytes
IsDueValue due.Hex (value.Bytes bytes) = IsUtf8 bytes
IsDueValue d v = Unit {0}

abbrev pub AreDueValues : List Due → List Value → Type 0
AreDueValues (d ∷ dues) (v ∷ values) = IsDueValue d v × AreDueValues dues values
AreDueValues dues values = Unit {0}

abbrev pub IsSmallItem : Item → Type 0
IsSmallItem item = AreDueValues (dues_of item.tag) item.values

literal_small : (field : List ℕ) (n : Nat) → IsLiteral field n → IsTree (number_literal n)
literal_small field (nats.Fits n) h = h.small
literal_small field nats.Wide h = tt

takes_small : (d : Due) (text : List ℕ) (fields : List (List ℕ)) (v : Value) (rest : List (List ℕ))
    → HasNoLineFeed text → Takes (2 ^ 32) d text fields v rest → IsDueValue d v
takes_small (due.Known k) text fields v rest none (n, is, (field, front, number)) =
    rw is number.small
takes_small due.Number text fields v rest none (n, is, (field, front, number)) = rw is number.small
takes_small due.Long text fields v rest none (n, is, (field, front, number)) = rw is number.small
takes_small due.Literal text fields v rest none (field, n, is, front, h) =
    rw is (literal_small field n h)
takes_small due.Info text fields v rest none h = tt
takes_small due.Hint text fields v rest none (inl (is, front)) = rw is tt
takes_small due.Hint text fields v rest none (inr (inl (is, front))) = rw is tt
takes_small due.Hint text fields v rest none
    (inr (inr (n, is, more, front, (field, behind, number)))) =
    rw is number.small
takes_small due.Flag text fields v rest none h = tt
takes_small (due.Counted k) text fields v rest none (ns, is, more, front, first, behind, all) =
    rw is first.2.small
takes_small (due.Rest k) text fields v rest none h = tt
takes_small due.Text text fields v rest none (is, utf8, end) = rw is (utf8, none)
takes_small due.Hex text fields v rest none (bytes, is, pairs, utf8, end) = rw is utf8

dues_small : (dues : List Due) (text : List ℕ) (fields : List (List ℕ)) (values : List Value)
    → HasNoLineFeed text → SpellsDues (2 ^ 32) dues text fields values → AreDueValues dues values
dues_small [] text fields values none h = tt
dues_small (d ∷ dues) text fields values none (v, rest, more, is, takes, spells) =
    rw is (takes_small d text fields v rest none takes, dues_small dues text rest more none spells)

values_small : (t : Tag) (values : List Value) (text : List ℕ) (fields : List (List ℕ))
    → HasNoLineFeed text → SpellsValues (2 ^ 32) t values text fields
    → AreDueValues (dues_of t) values
values_small (tag.Entry t) values text fields none s = dues_small (dues_of (tag.Entry t)) text fields values none s
values_small (tag.Declaration t) values text fields none s = dues_small (dues_of (tag.Declaration t)) text fields values none s
values_small tag.Budget values text fields none s = dues_small (dues_of tag.Budget) text fields values none s
values_small tag.Go values text fields none s = dues_small (dues_of tag.Go) text fields values none s
values_small tag.Trace values text fields none s = dues_small (dues_of tag.Trace) text fields values none s
values_small tag.Section values text fields none s = dues_small (dues_of tag.Section) text fields values none s
values_small tag.Parts values text fields none s = dues_small (dues_of tag.Parts) text fields values none s
values_small tag.Local values text fields none s = dues_small (dues_of tag.Local) text fields values none s
values_small (tag.Derivation f) values text fields none s = tt

own_small : (d : Dialect) (own : Option ℕ) (t : Tag) (values : List Value) (text : List ℕ)
    (fields : List (List ℕ)) → HasNoLineFeed text → SpellsOwn (2 ^ 32) d own t values text fields
    → AreDueValues (dues_of t) values
own_small d (Some own) t values text fields none s =
    values_small t values text _ none s.2.3
own_small d None t values text fields none s = values_small t values text _ none s.3

pub small_item : (d : Dialect) (first : Bool) (bytes : List ℕ) (item : Item)
    → HasNoLineFeed bytes → said_in d first bytes ≡ Ok (OfItem item) → IsSmallItem item
small_item d first bytes item none e =
    own_small d item.own item.tag item.values (text_behind bytes) (fields_of bytes)
    (text_has_none bytes none) (said_spelled (2 ^ 32) d first bytes (OfItem item) e)
