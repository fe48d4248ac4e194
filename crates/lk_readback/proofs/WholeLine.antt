-- Fields that spell an item, as one line that is read as it.
use Rattle.std.proofs.Common.{◌≡◌, ℕ, ◌≤◌, ◌^◌, false, List, [], ◌∷◌, ◌++◌, length, None, Ok, refl}
use Rattle.std.proofs.Common.{sym, subst, arith}
use Rattle.std.specs.Prelude.{decimal, Contains}
use Rattle.lk_token.specs.Fields.{text_behind}
use Rattle.lk_token.specs.Lines.{HasNoLineFeed}
use Rattle.lk_lines.specs.declared.tags.Tag.{Tag}
use Rattle.lk_lines.specs.declared.tags.Tag.TheVariants as tag
use Rattle.lk_lines.specs.declared.tags.Dialect.TheVariants as dialects
use Rattle.lk_lines.specs.declared.tags.EntryTag.{EntryTag}
use Rattle.lk_lines.specs.declared.tags.EntryTag.TheVariants as entry
use Rattle.lk_lines.specs.declared.tags.DeclarationTag.{DeclarationTag}
use Rattle.lk_lines.specs.declared.tags.DeclarationTag.TheVariants as declaration
use Rattle.lk_lines.specs.declared.rules.Family.TheVariants as family
use Rattle.lk_lines.specs.Values.{Value}
use Rattle.lk_lines.specs.Table.{dues_of}
use Rattle.lk_lines.specs.Tags.{tag_word, numbered_tags, plain_tags}
use Rattle.lk_lines.specs.Items.{Item, SpellsItem, SpellsValues}
use Rattle.lk_lines.specs.Says.{OfItem, said_of}
use Rattle.lk_lines.proofs.SaidLaws.{said_again}
use Rattle.lk_trim.specs.Written.{Written}
use Rattle.lk_readback.specs.Statable.{IsSmall}
use Rattle.lk_readback.specs.Items.{defines, declares}
use Rattle.lk_readback.proofs.Joined.{IsField, AreFields, spaced, joined_fields, joined_feed}
use Rattle.lk_readback.proofs.Spelled.{AreSpelled, small_field, small_numbers}

-- the bytes are one line, which says the item
pub record IsLine (bytes : List ℕ) (item : Item) : Type 0 where
  pub said : said_of false bytes ≡ Ok (OfItem item)
  pub one : HasNoLineFeed bytes

-- the numbers of what is written are numbers of fields
pub record AreFew (w : Written) : Type 0 where
  pub names : length w.names ≤ 2 ^ 32
  pub levels : length w.levels ≤ 2 ^ 32
  pub trees : length w.trees ≤ 2 ^ 32
  pub rules : w.rules ≤ 2 ^ 32

-- what any text spells with these fields is said by the fields, joined
line_of : (field : List ℕ) (fields : List (List ℕ)) (item : Item) → AreFields (field ∷ fields)
    → ((text : List ℕ) → SpellsItem (2 ^ 32) dialects.Export item text (field ∷ fields))
    → IsLine (field ++ spaced fields) item
line_of field fields item fine spell = record {
  said = said_again (2 ^ 32) dialects.Export false (field ++ spaced fields) (OfItem item)
      (subst (λ (fs : List (List ℕ)).
      SpellsItem (2 ^ 32) dialects.Export item (text_behind (field ++ spaced fields)) fs)
      (sym (joined_fields field fields fine)) (spell (text_behind (field ++ spaced fields))));
  one = joined_feed field fields fine;
}

pub word_field : (t : Tag) → IsField (tag_word t)
word_field (tag.Entry entry.NameText) = record { some = omega arith; plain = refl }
word_field (tag.Entry entry.NameNumber) = record { some = omega arith; plain = refl }
word_field (tag.Entry entry.Successor) = record { some = omega arith; plain = refl }
word_field (tag.Entry entry.Max) = record { some = omega arith; plain = refl }
word_field (tag.Entry entry.Imax) = record { some = omega arith; plain = refl }
word_field (tag.Entry entry.Parameter) = record { some = omega arith; plain = refl }
word_field (tag.Entry entry.Variable) = record { some = omega arith; plain = refl }
word_field (tag.Entry entry.Sort) = record { some = omega arith; plain = refl }
word_field (tag.Entry entry.Constant) = record { some = omega arith; plain = refl }
word_field (tag.Entry entry.Apply) = record { some = omega arith; plain = refl }
word_field (tag.Entry entry.Lambda) = record { some = omega arith; plain = refl }
word_field (tag.Entry entry.Pi) = record { some = omega arith; plain = refl }
word_field (tag.Entry entry.Let) = record { some = omega arith; plain = refl }
word_field (tag.Entry entry.Project) = record { some = omega arith; plain = refl }
word_field (tag.Entry entry.NatLiteral) = record { some = omega arith; plain = refl }
word_field (tag.Entry entry.TextLiteral) = record { some = omega arith; plain = refl }
word_field (tag.Entry entry.Rule) = record { some = omega arith; plain = refl }
word_field (tag.Declaration declaration.Axiom) = record { some = omega arith; plain = refl }
word_field (tag.Declaration declaration.Definition) = record { some = omega arith; plain = refl }
word_field (tag.Declaration declaration.Theorem) = record { some = omega arith; plain = refl }
word_field (tag.Declaration declaration.Opaque) = record { some = omega arith; plain = refl }
word_field (tag.Declaration declaration.Quotient) = record { some = omega arith; plain = refl }
word_field (tag.Declaration declaration.Inductive) = record { some = omega arith; plain = refl }
word_field (tag.Declaration declaration.Constructor) = record { some = omega arith; plain = refl }
word_field (tag.Declaration declaration.Recursor) = record { some = omega arith; plain = refl }
word_field tag.Budget = record { some = omega arith; plain = refl }
word_field tag.Go = record { some = omega arith; plain = refl }
word_field tag.Trace = record { some = omega arith; plain = refl }
word_field tag.Section = record { some = omega arith; plain = refl }
word_field tag.Parts = record { some = omega arith; plain = refl }
word_field tag.Local = record { some = omega arith; plain = refl }
word_field (tag.Derivation family.Typing) = record { some = omega arith; plain = refl }
word_field (tag.Derivation family.Reduction) = record { some = omega arith; plain = refl }
word_field (tag.Derivation family.Conversion) = record { some = omega arith; plain = refl }

-- each tag of a line that defines a number
pub numbered_among : (t : EntryTag) → Contains (numbered_tags dialects.Export) (tag.Entry t)
numbered_among entry.Apply = (0, omega arith, refl)
numbered_among entry.Constant = (1, omega arith, refl)
numbered_among entry.Lambda = (2, omega arith, refl)
numbered_among entry.Pi = (3, omega arith, refl)
numbered_among entry.Variable = (4, omega arith, refl)
numbered_among entry.NameText = (5, omega arith, refl)
numbered_among entry.Sort = (6, omega arith, refl)
numbered_among entry.NameNumber = (7, omega arith, refl)
numbered_among entry.Successor = (8, omega arith, refl)
numbered_among entry.Max = (9, omega arith, refl)
numbered_among entry.Imax = (10, omega arith, refl)
numbered_among entry.Parameter = (11, omega arith, refl)
numbered_among entry.Let = (12, omega arith, refl)
numbered_among entry.Project = (13, omega arith, refl)
numbered_among entry.NatLiteral = (14, omega arith, refl)
numbered_among entry.TextLiteral = (15, omega arith, refl)
numbered_among entry.Rule = (16, omega arith, refl)

-- each tag of a line that begins with it
declared_among : (t : DeclarationTag) → Contains (plain_tags dialects.Export) (tag.Declaration t)
declared_among declaration.Theorem = (0, omega arith, refl)
declared_among declaration.Definition = (1, omega arith, refl)
declared_among declaration.Axiom = (2, omega arith, refl)
declared_among declaration.Opaque = (3, omega arith, refl)
declared_among declaration.Quotient = (4, omega arith, refl)
declared_among declaration.Inductive = (5, omega arith, refl)
declared_among declaration.Constructor = (6, omega arith, refl)
declared_among declaration.Recursor = (7, omega arith, refl)

budget_among : Contains (plain_tags dialects.Export) tag.Budget
budget_among = (8, omega arith, refl)

-- a line that defines a number
pub numbered_line : (own : ℕ) (t : EntryTag) (fields : List (List ℕ)) (values : List Value)
    → IsSmall own
    → ((text : List ℕ) → AreSpelled (dues_of (tag.Entry t)) text fields values)
    → IsLine (decimal own ++ spaced (tag_word (tag.Entry t) ∷ fields)) (defines own t values)
numbered_line own t fields values small are =
    line_of (decimal own) (tag_word (tag.Entry t) ∷ fields) (defines own t values)
    (small_field own small, (word_field (tag.Entry t), (are []).fine))
    (λ text. (
      tag_word (tag.Entry t) ∷ fields,
      (decimal own, refl, small_numbers own small),
      (numbered_among t, fields, refl, (are text).spell),
    ))

plain_line : (t : Tag) (fields : List (List ℕ)) (values : List Value)
    → Contains (plain_tags dialects.Export) t → AreFields fields
    → ((text : List ℕ) → SpellsValues (2 ^ 32) t values text fields)
    → IsLine (tag_word t ++ spaced fields) (record { own = None; tag = t; values = values })
plain_line t fields values among fine spell =
    line_of (tag_word t) fields (record { own = None; tag = t; values = values })
    (word_field t, fine) (λ text. (among, fields, refl, spell text))

-- a line that declares something
pub declared_line : (t : DeclarationTag) (fields : List (List ℕ)) (values : List Value)
    → ((text : List ℕ) → AreSpelled (dues_of (tag.Declaration t)) text fields values)
    → IsLine (tag_word (tag.Declaration t) ++ spaced fields) (declares t values)
declared_line t fields values are =
    plain_line (tag.Declaration t) fields values (declared_among t) (are []).fine
    (λ text. (are text).spell)

-- the line of a budget
pub stated_line : (fields : List (List ℕ)) (values : List Value)
    → ((text : List ℕ) → AreSpelled (dues_of tag.Budget) text fields values)
    → IsLine (tag_word tag.Budget ++ spaced fields)
    (record { own = None; tag = tag.Budget; values = values })
stated_line fields values are =
    plain_line tag.Budget fields values budget_among (are []).fine (λ text. (are text).spell)

pub line_again : (a b : List ℕ) (item : Item) → a ≡ b → IsLine b item → IsLine a item
line_again a b item e h = subst (λ (bytes : List ℕ). IsLine bytes item) (sym e) h
