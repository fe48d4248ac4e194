-- An item that is cut off a file: a line has no line feed, so its texts have none.
use Rattle.std.proofs.Common.{◌≡◌, ◌≢◌, ◌^◌, ℕ, nat_eq, Bool, true, List, [], ◌∷◌, Ok, Some, None, arith, refl}
use Rattle.std.specs.Prelude.{not}
use Rattle.std.specs.declared.option.Option.{Option}
use Rattle.std.proofs.lemmas.Bool.Decides.{nat_tests}
use Rattle.std.proofs.lemmas.List.Elements.{All-tail}
use Rattle.lk_tree.proofs.Scans.{and_true}
use Rattle.lk_rulebook.specs.Spelled.{no_lf}
use Rattle.lk_token.specs.Lines.{HasNoLineFeed}
use Rattle.lk_token.specs.Fields.{fields_of, text_behind}
use Rattle.lk_lines.specs.declared.tags.EntryTag.TheVariants as entry
use Rattle.lk_lines.specs.declared.tags.Dialect.{Dialect}
use Rattle.lk_lines.specs.declared.tags.Tag.{Tag}
use Rattle.lk_lines.specs.declared.tags.Tag.TheVariants.{Entry}
use Rattle.lk_lines.specs.Values.{Value}
use Rattle.lk_lines.specs.Values as value
use Rattle.lk_lines.specs.Items.{Item, SpellsOwn, SpellsValues}
use Rattle.lk_lines.specs.Says.{OfItem, said_in}
use Rattle.lk_lines.proofs.LineFeedLaws.{text_has_none, said_spelled, text_lem}
use Rattle.lk_units.proofs.Spellings.{AreSpelledValues, IsSpelledItem}

no_feed : (b : ℕ) → b ≢ 10 → not (nat_eq b 10) ≡ true
no_feed b h = grind (arith, nat_tests, h)

spelled_bytes : (bytes : List ℕ) → HasNoLineFeed bytes → no_lf bytes ≡ true
spelled_bytes [] h = refl
spelled_bytes (b ∷ bytes) h = and_true (not (nat_eq b 10)) (no_lf bytes) (no_feed b (h 0 0 (omega arith))) (spelled_bytes bytes (All-tail (λ x. x ≢ 10) b bytes h))

spelled_entry : (limit : ℕ) (t : Tag) (behind : List ℕ) (fields : List (List ℕ)) (values : List Value) → HasNoLineFeed behind → SpellsValues limit t values behind fields → AreSpelledValues t values
spelled_entry limit (Entry entry.NameText) behind fields (value.Number p ∷ value.Bytes bytes ∷ []) h s = rw (text_lem limit behind bytes p fields s) (spelled_bytes behind h)
spelled_entry limit t behind fields values h s = tt

spelled_own : (limit : ℕ) (dialect : Dialect) (own : Option ℕ) (t : Tag) (values : List Value) (behind : List ℕ) (fields : List (List ℕ)) → HasNoLineFeed behind → SpellsOwn limit dialect own t values behind fields → AreSpelledValues t values
spelled_own limit dialect (Some own) t values behind fields h s = spelled_entry limit t behind _ values h s.2.3
spelled_own limit dialect None t values behind fields h s = spelled_entry limit t behind _ values h s.3

pub spelled_item : (dialect : Dialect) (first : Bool) (bytes : List ℕ) (item : Item) → HasNoLineFeed bytes → said_in dialect first bytes ≡ Ok (OfItem item) → IsSpelledItem item
spelled_item dialect first bytes item h e = spelled_own (2 ^ 32) dialect item.own item.tag item.values (text_behind bytes) (fields_of bytes) (text_has_none bytes h) (said_spelled (2 ^ 32) dialect first bytes (OfItem item) e)
