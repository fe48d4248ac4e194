-- What the fields of a line spell is what is read, and their first fault is what is told.
use Rattle.std.proofs.Common.{◌≡◌, ℕ, ◌<◌, true, false, List, [], ◌∷◌, Ok, Err, Some, None, refl, subst, inl, inr, arith}
use Rattle.std.specs.Prelude.{◌≢◌, Contains}
use Rattle.std.specs.declared.option.Option.{Option}
use Rattle.std.proofs.lemmas.Bool.Decides.{nat_tests}
use Rattle.std.specs.Char.{digit_value}
use Rattle.std.specs.Str.Parse.{IsNumeral}
use Rattle.lk_lines.specs.declared.words.Word.{Word}
use Rattle.lk_lines.specs.declared.words.Word.TheVariants.{UnknownTag, MissingField, BadWord}
use Rattle.lk_lines.specs.declared.tags.Tag.{Tag}
use Rattle.lk_lines.specs.declared.tags.Dialect.{Dialect}
use Rattle.lk_lines.specs.declared.tags.Tag.TheVariants as tag
use Rattle.lk_lines.specs.declared.tags.EntryTag.TheVariants as entry
use Rattle.lk_lines.specs.declared.tags.DeclarationTag.TheVariants as declaration
use Rattle.lk_lines.specs.declared.rules.Family.{Family}
use Rattle.lk_lines.specs.declared.rules.Family.TheVariants as family
use Rattle.lk_lines.specs.Values.{Value}
use Rattle.lk_lines.specs.Words.{find_word}
use Rattle.lk_lines.specs.Rules.{rule_word, rules_of, rule_at, rule_dues}
use Rattle.lk_lines.specs.Table.{dues_of}
use Rattle.lk_lines.specs.Tags.{tag_word, numbered_tags, plain_tags}
use Rattle.lk_lines.specs.Reading.{number_at}
use Rattle.lk_lines.specs.Spelling.{FirstNumber, NoFirstNumber}
use Rattle.lk_lines.specs.Items.{Item, tag_at, values_at, derivation_at, numbered_at, plain_at, item_at, is_tag, SpellsDerivation, SpellsValues, SpellsTagged, SpellsOwn, SpellsItem, DerivationFault, ValuesFault, TagFault, ItemFault}
use Rattle.lk_lines.proofs.Numerals.{number_of-again, number_of-fault}
use Rattle.lk_lines.proofs.ItemCases.{find_cases, numbered_led, plain_led, rule_led, AreLed}
use Rattle.lk_lines.proofs.DueAgain.{again}
use Rattle.lk_lines.proofs.DueStops.{stops}

-- a tag begins with '#'
tag_begins : (t : Tag) → is_tag (tag_word t) ≡ true
tag_begins (tag.Entry entry.NameText) = refl
tag_begins (tag.Entry entry.NameNumber) = refl
tag_begins (tag.Entry entry.Successor) = refl
tag_begins (tag.Entry entry.Max) = refl
tag_begins (tag.Entry entry.Imax) = refl
tag_begins (tag.Entry entry.Parameter) = refl
tag_begins (tag.Entry entry.Variable) = refl
tag_begins (tag.Entry entry.Sort) = refl
tag_begins (tag.Entry entry.Constant) = refl
tag_begins (tag.Entry entry.Apply) = refl
tag_begins (tag.Entry entry.Lambda) = refl
tag_begins (tag.Entry entry.Pi) = refl
tag_begins (tag.Entry entry.Let) = refl
tag_begins (tag.Entry entry.Project) = refl
tag_begins (tag.Entry entry.NatLiteral) = refl
tag_begins (tag.Entry entry.TextLiteral) = refl
tag_begins (tag.Entry entry.Rule) = refl
tag_begins (tag.Declaration declaration.Axiom) = refl
tag_begins (tag.Declaration declaration.Definition) = refl
tag_begins (tag.Declaration declaration.Theorem) = refl
tag_begins (tag.Declaration declaration.Opaque) = refl
tag_begins (tag.Declaration declaration.Quotient) = refl
tag_begins (tag.Declaration declaration.Inductive) = refl
tag_begins (tag.Declaration declaration.Constructor) = refl
tag_begins (tag.Declaration declaration.Recursor) = refl
tag_begins tag.Budget = refl
tag_begins tag.Go = refl
tag_begins tag.Trace = refl
tag_begins tag.Section = refl
tag_begins tag.Parts = refl
tag_begins tag.Local = refl
tag_begins (tag.Derivation family.Typing) = refl
tag_begins (tag.Derivation family.Reduction) = refl
tag_begins (tag.Derivation family.Conversion) = refl

-- a numeral does not
no_mark : (c : ℕ) → digit_value c < 10 → c ≡ 35 → ⊥
no_mark c lt e = let bad : digit_value 35 < 10 = subst (λ n. digit_value n < 10) e lt in omega arith

pub numeral_begins : (field : List ℕ) → IsNumeral 10 field → is_tag field ≡ false
numeral_begins [] h = absurd (let lt = h.0 in omega arith)
numeral_begins (c ∷ cs) h = let isnt : c ≡ 35 → ⊥ = no_mark c h.1.0 in grind (arith, nat_tests)

derivation_again : (limit : ℕ) (f : Family) (values : List Value) (text : List ℕ) (fields : List (List ℕ)) → SpellsDerivation limit f values text fields → derivation_at limit f text fields ≡ Ok values
unfolding rule_at
derivation_again limit f values text fields (r, among, more, q, rest, is, s) = rw (q, rule_led f r among, again limit (rule_dues r) text more rest s, is) refl

values_again : (limit : ℕ) (t : Tag) (values : List Value) (text : List ℕ) (fields : List (List ℕ)) → SpellsValues limit t values text fields → values_at limit t text fields ≡ Ok values
values_again limit (tag.Derivation f) values text fields s = derivation_again limit f values text fields s
values_again limit (tag.Entry t) values text fields s = again limit (dues_of (tag.Entry t)) text fields values s
values_again limit (tag.Declaration t) values text fields s = again limit (dues_of (tag.Declaration t)) text fields values s
values_again limit tag.Budget values text fields s = again limit (dues_of tag.Budget) text fields values s
values_again limit tag.Go values text fields s = again limit (dues_of tag.Go) text fields values s
values_again limit tag.Trace values text fields s = again limit (dues_of tag.Trace) text fields values s
values_again limit tag.Section values text fields s = again limit (dues_of tag.Section) text fields values s
values_again limit tag.Parts values text fields s = again limit (dues_of tag.Parts) text fields values s
values_again limit tag.Local values text fields s = again limit (dues_of tag.Local) text fields values s

tagged_again : (limit : ℕ) (tags : List Tag) → AreLed tags → (t : Tag) (values : List Value) (text : List ℕ) (fields : List (List ℕ)) → SpellsTagged limit tags t values text fields
    → (more : List (List ℕ)) × (fields ≡ tag_word t ∷ more) × (tag_at tags fields ≡ Ok (t, more)) × (values_at limit t text more ≡ Ok values)
unfolding tag_at
tagged_again limit tags led t values text fields (among, more, q, s) = (more, q, rw (q, led t among) refl, values_again limit t values text more s)

own_again : (limit : ℕ) (d : Dialect) (own : Option ℕ) (t : Tag) (values : List Value) (text : List ℕ) (fields : List (List ℕ)) → SpellsOwn limit d own t values text fields → item_at limit d text fields ≡ Ok (record { own = own; tag = t; values = values })
unfolding item_at plain_at numbered_at number_at
own_again limit d None t values text fields s = let (more, q, e, is) = tagged_again limit (plain_tags d) (plain_led d) t values text fields s in
    let e2 : tag_at (plain_tags d) (tag_word t ∷ more) ≡ Ok (t, more) = subst (λ (f : List (List ℕ)). tag_at (plain_tags d) f ≡ Ok (t, more)) q e in
    rw (q, tag_begins t, e2, is) refl
own_again limit d (Some n) t values text fields (rest, (field, p, h), s) = let (more, q, e, is) = tagged_again limit (numbered_tags d) (numbered_led d) t values text rest s in
    rw (p, numeral_begins field h.numeral, number_of-again limit field n h, e, is) refl

pub item_again : (limit : ℕ) (d : Dialect) (item : Item) (text : List ℕ) (fields : List (List ℕ)) → SpellsItem limit d item text fields → item_at limit d text fields ≡ Ok item
item_again limit d item text fields s = own_again limit d item.own item.tag item.values text fields s

find_stop : {A : Type 0} → (none : Word) (word_of : A → List ℕ) (xs : List A) (word : List ℕ) → ((x : A) → Contains xs x → word ≢ word_of x) → find_word none word_of xs word ≡ Err none
find_stop none word_of xs word h = elim (find_cases none word_of xs word) [
  | inl (x, among, e, q) ↦ absurd (h x among q)
  | inr e ↦ e
]

derivation_stop : (limit : ℕ) (f : Family) (text : List ℕ) (fields : List (List ℕ)) (w : Word) → DerivationFault limit f text fields w → derivation_at limit f text fields ≡ Err w
unfolding rule_at
derivation_stop limit f text [] w h = rw h refl
derivation_stop limit f text (field ∷ fields) w (inl h) = rw (h.0, find_stop BadWord rule_word (rules_of f) field h.1) refl
derivation_stop limit f text (field ∷ fields) w (inr (r, among, q, h)) = rw (q, rule_led f r among, stops limit (rule_dues r) text fields w h) refl

values_stop : (limit : ℕ) (t : Tag) (text : List ℕ) (fields : List (List ℕ)) (w : Word) → ValuesFault limit t text fields w → values_at limit t text fields ≡ Err w
values_stop limit (tag.Derivation f) text fields w h = derivation_stop limit f text fields w h
values_stop limit (tag.Entry t) text fields w h = stops limit (dues_of (tag.Entry t)) text fields w h
values_stop limit (tag.Declaration t) text fields w h = stops limit (dues_of (tag.Declaration t)) text fields w h
values_stop limit tag.Budget text fields w h = stops limit (dues_of tag.Budget) text fields w h
values_stop limit tag.Go text fields w h = stops limit (dues_of tag.Go) text fields w h
values_stop limit tag.Trace text fields w h = stops limit (dues_of tag.Trace) text fields w h
values_stop limit tag.Section text fields w h = stops limit (dues_of tag.Section) text fields w h
values_stop limit tag.Parts text fields w h = stops limit (dues_of tag.Parts) text fields w h
values_stop limit tag.Local text fields w h = stops limit (dues_of tag.Local) text fields w h

plain_stop : (limit : ℕ) (d : Dialect) (text : List ℕ) (fields : List (List ℕ)) (w : Word) → TagFault limit (plain_tags d) text fields w → plain_at limit d text fields ≡ Err w
unfolding plain_at tag_at
plain_stop limit d text [] w h = rw h refl
plain_stop limit d text (field ∷ fields) w (inl h) = rw (h.0, find_stop UnknownTag tag_word (plain_tags d) field h.1) refl
plain_stop limit d text (field ∷ fields) w (inr (t, among, q, f)) = rw (q, plain_led d t among, values_stop limit t text fields w f) refl

own_stop : (limit : ℕ) (d : Dialect) (text : List ℕ) (fields more : List (List ℕ)) (own : ℕ) (w : Word) → FirstNumber limit fields own more → TagFault limit (numbered_tags d) text more w → numbered_at limit d text fields ≡ Err w
unfolding numbered_at tag_at number_at
own_stop limit d text fields [] own w (field, p, h) bad = rw (p, number_of-again limit field own h, bad) refl
own_stop limit d text fields (f ∷ more) own w (field, p, h) (inl bad) = rw (p, number_of-again limit field own h, bad.0, find_stop UnknownTag tag_word (numbered_tags d) f bad.1) refl
own_stop limit d text fields (f ∷ more) own w (field, p, h) (inr (t, among, q, bad)) = rw (p, number_of-again limit field own h, q, numbered_led d t among, values_stop limit t text more w bad) refl

numbered_stop : (limit : ℕ) (d : Dialect) (text field : List ℕ) (fields : List (List ℕ)) (w : Word) → NoFirstNumber MissingField limit (field ∷ fields) w → numbered_at limit d text (field ∷ fields) ≡ Err w
unfolding numbered_at number_at
numbered_stop limit d text field fields w h = rw (number_of-fault limit field w h) refl

pub item_stop : (limit : ℕ) (d : Dialect) (text : List ℕ) (fields : List (List ℕ)) (w : Word) → ItemFault limit d text fields w → item_at limit d text fields ≡ Err w
unfolding item_at
item_stop limit d text [] w h = absurd h
item_stop limit d text (field ∷ fields) w (inl (b, h)) = rw (b, plain_stop limit d text (field ∷ fields) w h) refl
item_stop limit d text (field ∷ fields) w (inr (b, inl h)) = rw (b, numbered_stop limit d text field fields w h) refl
item_stop limit d text (field ∷ fields) w (inr (b, inr (own, more, n, h))) = rw (b, own_stop limit d text (field ∷ fields) more own w n h) refl
