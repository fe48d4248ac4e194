-- The tags of the format: their words, which of them have a number in front, and which of them each dialect has.
use Rattle.std.specs.Prelude.{ℕ, List, [], ◌∷◌, Result, codes}
use Rattle.lk_lines.specs.declared.words.Word.{Word}
use Rattle.lk_lines.specs.declared.words.Word.TheVariants.{UnknownTag}
use Rattle.lk_lines.specs.declared.tags.EntryTag.TheVariants as entry
use Rattle.lk_lines.specs.declared.tags.DeclarationTag.TheVariants as declaration
use Rattle.lk_lines.specs.declared.rules.Family.TheVariants as family
use Rattle.lk_lines.specs.declared.tags.NumberedTag.{NumberedTag}
use Rattle.lk_lines.specs.declared.tags.NumberedTag.TheVariants as numbered
use Rattle.lk_lines.specs.declared.tags.PlainTag.{PlainTag}
use Rattle.lk_lines.specs.declared.tags.PlainTag.TheVariants as plain
use Rattle.lk_lines.specs.declared.tags.Tag.{Tag}
use Rattle.lk_lines.specs.declared.tags.Tag.TheVariants.{Entry, Declaration, Budget, Go, Trace, Section, Parts, Local, Derivation}
use Rattle.lk_lines.specs.declared.tags.Dialect.{Dialect}
use Rattle.lk_lines.specs.declared.tags.Dialect.TheVariants as dialects
use Rattle.lk_lines.specs.Words.{find_word}

-- the word of a tag
abbrev pub tag_word : Tag → List ℕ
tag_word (Entry entry.NameText) = codes "#NS"
tag_word (Entry entry.NameNumber) = codes "#NI"
tag_word (Entry entry.Successor) = codes "#US"
tag_word (Entry entry.Max) = codes "#UM"
tag_word (Entry entry.Imax) = codes "#UIM"
tag_word (Entry entry.Parameter) = codes "#UP"
tag_word (Entry entry.Variable) = codes "#EV"
tag_word (Entry entry.Sort) = codes "#ES"
tag_word (Entry entry.Constant) = codes "#EC"
tag_word (Entry entry.Apply) = codes "#EA"
tag_word (Entry entry.Lambda) = codes "#EL"
tag_word (Entry entry.Pi) = codes "#EP"
tag_word (Entry entry.Let) = codes "#EZ"
tag_word (Entry entry.Project) = codes "#EJ"
tag_word (Entry entry.NatLiteral) = codes "#ELN"
tag_word (Entry entry.TextLiteral) = codes "#ELS"
tag_word (Entry entry.Rule) = codes "#RR"
tag_word (Declaration declaration.Axiom) = codes "#AX"
tag_word (Declaration declaration.Definition) = codes "#DEF"
tag_word (Declaration declaration.Theorem) = codes "#THM"
tag_word (Declaration declaration.Opaque) = codes "#OPAQ"
tag_word (Declaration declaration.Quotient) = codes "#QUOT"
tag_word (Declaration declaration.Inductive) = codes "#IND"
tag_word (Declaration declaration.Constructor) = codes "#CTOR"
tag_word (Declaration declaration.Recursor) = codes "#REC"
tag_word Budget = codes "#BUD"
tag_word Go = codes "#GO"
tag_word Trace = codes "#TR"
tag_word Section = codes "#AT"
tag_word Parts = codes "#OK"
tag_word Local = codes "#EF"
tag_word (Derivation family.Typing) = codes "#TY"
tag_word (Derivation family.Reduction) = codes "#RD"
tag_word (Derivation family.Conversion) = codes "#CV"

-- the tags of lines with a number in front that a dialect has beside the common ones
abbrev pub own_numbered_tags : Dialect → List Tag
own_numbered_tags dialects.Export = []
own_numbered_tags dialects.Rounds = []
own_numbered_tags dialects.Text = []
own_numbered_tags dialects.Trace = Local ∷ Derivation family.Typing ∷ Derivation family.Reduction
    ∷ Derivation family.Conversion ∷ []

-- those of lines that define a number which are not often met
abbrev pub rare_tags : Dialect → List Tag
rare_tags dialect = Entry entry.Successor ∷ Entry entry.Max ∷ Entry entry.Imax
    ∷ Entry entry.Parameter ∷ Entry entry.Let ∷ Entry entry.Project ∷ Entry entry.NatLiteral
    ∷ Entry entry.TextLiteral ∷ Entry entry.Rule ∷ own_numbered_tags dialect

-- the tags of lines that define a number, which stands in front of the tag
abbrev pub numbered_tags : Dialect → List Tag
numbered_tags dialect = Entry entry.Apply ∷ Entry entry.Constant ∷ Entry entry.Lambda
    ∷ Entry entry.Pi ∷ Entry entry.Variable ∷ Entry entry.NameText
    ∷ Entry entry.Sort ∷ Entry entry.NameNumber ∷ rare_tags dialect

-- the tags of lines that begin with their tag which a dialect has beside the common ones
abbrev pub own_tags : Dialect → List Tag
own_tags dialects.Export = Budget ∷ []
own_tags dialects.Rounds = Go ∷ []
own_tags dialects.Text = []
own_tags dialects.Trace = Budget ∷ Trace ∷ Section ∷ Parts ∷ []

-- the tags of lines that begin with their tag
abbrev pub plain_tags : Dialect → List Tag
plain_tags dialect = Declaration declaration.Theorem ∷ Declaration declaration.Definition
    ∷ Declaration declaration.Axiom ∷ Declaration declaration.Opaque
    ∷ Declaration declaration.Quotient ∷ Declaration declaration.Inductive
    ∷ Declaration declaration.Constructor ∷ Declaration declaration.Recursor ∷ own_tags dialect

abbrev pub numbered_tag : NumberedTag → Tag
numbered_tag (numbered.Entry t) = Entry t
numbered_tag numbered.Local = Local
numbered_tag (numbered.Derivation f) = Derivation f

abbrev pub plain_tag : PlainTag → Tag
plain_tag (plain.Declaration t) = Declaration t
plain_tag plain.Budget = Budget
plain_tag plain.Go = Go
plain_tag plain.Trace = Trace
plain_tag plain.Section = Section
plain_tag plain.Parts = Parts

-- the tag among these with this word
abbrev pub find_tag : List Tag → List ℕ → Result Tag Word
find_tag tags word = find_word UnknownTag tag_word tags word
