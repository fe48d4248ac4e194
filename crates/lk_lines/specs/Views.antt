-- A typed line, seen as what the table speaks of: its tag and its values.
use Rattle.std.specs.Prelude.{ℕ, List, [], ◌∷◌, ◌++◌, Some, None, Result}
use Rattle.std.specs.declared.option.Option.{Option}
use Rattle.lk_lines.specs.declared.tags.EntryTag.{EntryTag}
use Rattle.lk_lines.specs.declared.tags.EntryTag.TheVariants as entry
use Rattle.lk_lines.specs.declared.tags.DeclarationTag.{DeclarationTag}
use Rattle.lk_lines.specs.declared.tags.DeclarationTag.TheVariants as declaration
use Rattle.lk_lines.specs.declared.tags.Tag.TheVariants as tag
use Rattle.lk_lines.specs.declared.line.EntryLine.{EntryLine}
use Rattle.lk_lines.specs.declared.line.EntryLine.TheVariants as entries
use Rattle.lk_lines.specs.declared.line.DeclarationLine.{DeclarationLine}
use Rattle.lk_lines.specs.declared.line.DeclarationLine.TheVariants as declarations
use Rattle.lk_lines.specs.declared.line.ReducibilityHint.{ReducibilityHint}
use Rattle.lk_lines.specs.declared.line.ReducibilityHint.TheVariants as hints
use Rattle.lk_lines.specs.declared.line.DerivationLine.{DerivationLine}
use Rattle.lk_lines.specs.declared.line.Statement.{Statement}
use Rattle.lk_lines.specs.declared.line.Statement.TheVariants as statement
use Rattle.lk_lines.specs.declared.steps.FieldError.{FieldError}
use Rattle.lk_lines.specs.declared.rules.Family.{Family}
use Rattle.lk_lines.specs.FileNumbers.{NumberView}
use Rattle.lk_lines.specs.Items.{derivation_at}
use Rattle.lk_lines.specs.Rules.{family_of}
use Rattle.lk_lines.specs.Reading.{read_dues}
use Rattle.lk_lines.specs.Table.{dues_of}
use Rattle.lk_lines.specs.Told.{Gives}
use Rattle.lk_lines.specs.Says.{Says, Blank, Version, OfItem}
use Rattle.lk_lines.specs.Values.{Value, Number, Literal, OfInfo, OfHint, Flag, Numbers, Bytes, OfRule}

-- what stands behind the tag
abbrev pub entry_values : {N : Type 0} → NumberView N → EntryLine N → List Value
entry_values view (entries.NameText parent text) =
    Number (view.value parent) ∷ Bytes text.now ∷ []
entry_values view (entries.NameNumber parent component) =
    Number (view.value parent) ∷ Number component ∷ []
entry_values view (entries.Successor level) = Number (view.value level) ∷ []
entry_values view (entries.Max left right) =
    Number (view.value left) ∷ Number (view.value right) ∷ []
entry_values view (entries.Imax left right) =
    Number (view.value left) ∷ Number (view.value right) ∷ []
entry_values view (entries.Parameter name) = Number (view.value name) ∷ []
entry_values view (entries.Variable index) = Number (view.value index) ∷ []
entry_values view (entries.Sort level) = Number (view.value level) ∷ []
entry_values view (entries.Constant name levels) =
    Number (view.value name) ∷ Numbers (view.values levels.items) ∷ []
entry_values view (entries.Apply function argument) =
    Number (view.value function) ∷ Number (view.value argument) ∷ []
entry_values view (entries.Lambda info name binder_type body) =
    OfInfo info ∷ Number (view.value name) ∷ Number (view.value binder_type)
    ∷ Number (view.value body) ∷ []
entry_values view (entries.Pi info name binder_type body) =
    OfInfo info ∷ Number (view.value name) ∷ Number (view.value binder_type)
    ∷ Number (view.value body) ∷ []
entry_values view (entries.Let name binder_type value body) =
    Number (view.value name) ∷ Number (view.value binder_type)
    ∷ Number (view.value value) ∷ Number (view.value body) ∷ []
entry_values view (entries.Project structure field subject) =
    Number (view.value structure) ∷ Number (view.value field)
    ∷ Number (view.value subject) ∷ []
entry_values view (entries.NatLiteral number) = Literal number.value ∷ []
entry_values view (entries.TextLiteral text) = Bytes text.items ∷ []
entry_values view (entries.Rule constructor field_count value) =
    Number (view.value constructor) ∷ Number (view.value field_count)
    ∷ Number (view.value value) ∷ []

abbrev pub entry_tag : {N : Type 0} → EntryLine N → EntryTag
entry_tag (entries.NameText parent text) = entry.NameText
entry_tag (entries.NameNumber parent component) = entry.NameNumber
entry_tag (entries.Successor level) = entry.Successor
entry_tag (entries.Max left right) = entry.Max
entry_tag (entries.Imax left right) = entry.Imax
entry_tag (entries.Parameter name) = entry.Parameter
entry_tag (entries.Variable index) = entry.Variable
entry_tag (entries.Sort level) = entry.Sort
entry_tag (entries.Constant name levels) = entry.Constant
entry_tag (entries.Apply function argument) = entry.Apply
entry_tag (entries.Lambda info name binder_type body) = entry.Lambda
entry_tag (entries.Pi info name binder_type body) = entry.Pi
entry_tag (entries.Let name binder_type value body) = entry.Let
entry_tag (entries.Project structure field subject) = entry.Project
entry_tag (entries.NatLiteral number) = entry.NatLiteral
entry_tag (entries.TextLiteral text) = entry.TextLiteral
entry_tag (entries.Rule constructor field_count value) = entry.Rule

abbrev pub hint_value : {N : Type 0} → NumberView N → ReducibilityHint N → ReducibilityHint ℕ
hint_value view hints.Opaque = hints.Opaque
hint_value view hints.Abbreviation = hints.Abbreviation
hint_value view (hints.Regular height) = hints.Regular (view.value height)

-- what stands behind the tag
abbrev pub declaration_values : {N : Type 0} → NumberView N → DeclarationLine N → List Value
declaration_values view (declarations.Axiom name declared_type parameters) =
    Number (view.value name) ∷ Number (view.value declared_type)
    ∷ Numbers (view.values parameters.items) ∷ []
declaration_values view (declarations.Definition name declared_type value hint parameters) =
    Number (view.value name) ∷ Number (view.value declared_type)
    ∷ Number (view.value value) ∷ OfHint (hint_value view hint)
    ∷ Numbers (view.values parameters.items) ∷ []
declaration_values view (declarations.Theorem name declared_type value parameters) =
    Number (view.value name) ∷ Number (view.value declared_type)
    ∷ Number (view.value value) ∷ Numbers (view.values parameters.items) ∷ []
declaration_values view (declarations.Opaque name declared_type value parameters) =
    Number (view.value name) ∷ Number (view.value declared_type)
    ∷ Number (view.value value) ∷ Numbers (view.values parameters.items) ∷ []
declaration_values view (declarations.Quotient name declared_type parameters) =
    Number (view.value name) ∷ Number (view.value declared_type)
    ∷ Numbers (view.values parameters.items) ∷ []
declaration_values view (declarations.Inductive stated) =
    let line = stated.value in
    Number (view.value line.name) ∷ Number (view.value line.declared_type)
    ∷ Number (view.value line.recursive) ∷ Number (view.value line.nested)
    ∷ Number (view.value line.parameter_count) ∷ Number (view.value line.index_count)
    ∷ Numbers (view.values line.types.items)
    ∷ Numbers (view.values line.constructors.items)
    ∷ Numbers (view.values line.parameters.items) ∷ []
declaration_values view (declarations.Constructor stated) =
    let line = stated.value in
    Number (view.value line.name) ∷ Number (view.value line.declared_type)
    ∷ Number (view.value line.parent) ∷ Number (view.value line.place)
    ∷ Number (view.value line.parameter_count) ∷ Number (view.value line.field_count)
    ∷ Numbers (view.values line.parameters.items) ∷ []
declaration_values view (declarations.Recursor stated) =
    let line = stated.value in
    Number (view.value line.name) ∷ Number (view.value line.declared_type)
    ∷ Numbers (view.values line.types.items)
    ∷ Number (view.value line.parameter_count) ∷ Number (view.value line.index_count)
    ∷ Number (view.value line.motive_count)
    ∷ Number (view.value line.minor_count) ∷ Numbers (view.values line.rules.items) ∷ Flag line.k
    ∷ Numbers (view.values line.parameters.items) ∷ []

abbrev pub declaration_tag : {N : Type 0} → DeclarationLine N → DeclarationTag
declaration_tag (declarations.Axiom name declared_type parameters) = declaration.Axiom
declaration_tag (declarations.Definition name declared_type value hint parameters) =
    declaration.Definition
declaration_tag (declarations.Theorem name declared_type value parameters) = declaration.Theorem
declaration_tag (declarations.Opaque name declared_type value parameters) = declaration.Opaque
declaration_tag (declarations.Quotient name declared_type parameters) = declaration.Quotient
declaration_tag (declarations.Inductive stated) = declaration.Inductive
declaration_tag (declarations.Constructor stated) = declaration.Constructor
declaration_tag (declarations.Recursor stated) = declaration.Recursor

-- what a reader of entries with this tag answers, from the text behind the third field of a line
-- and the fields that are left
abbrev pub GivesEntry : {N : Type 0} → NumberView N → EntryTag → List ℕ → List (List ℕ)
    → Result (EntryLine N) FieldError → Type 0
GivesEntry view t text fields result =
    Gives (entry_values view) result (read_dues view.limit (dues_of (tag.Entry t)) text fields)

-- the same of declarations
abbrev pub GivesDeclaration : {N : Type 0} → NumberView N → DeclarationTag → List ℕ → List (List ℕ)
    → Result (DeclarationLine N) FieldError → Type 0
GivesDeclaration view t text fields result = Gives (declaration_values view) result
    (read_dues view.limit (dues_of (tag.Declaration t)) text fields)

-- what stands beside the two trees of a line, if there is something
abbrev pub beside_values : {N : Type 0} → NumberView N → Option N → List Value
beside_values view None = []
beside_values view (Some n) = Number (view.value n) ∷ []

-- what stands behind the rule
abbrev pub rule_values : {N : Type 0} → NumberView N → DerivationLine N → List Value
rule_values view line = Number (view.value line.left) ∷ Number (view.value line.right)
    ∷ (beside_values view line.beside ++ Numbers (view.values line.premises.items) ∷ [])

-- what stands behind the tag
abbrev pub derivation_values : {N : Type 0} → NumberView N → DerivationLine N → List Value
derivation_values view line = OfRule line.rule ∷ rule_values view line

-- the same of derivations
abbrev pub GivesDerivation : {N : Type 0} → NumberView N → Family → List ℕ → List (List ℕ)
    → Result (DerivationLine N) FieldError → Type 0
GivesDerivation view f text fields result =
    Gives (derivation_values view) result (derivation_at view.limit f text fields)

-- what stands behind `#BUD`
abbrev pub budget_values : ℕ → ℕ → List Value
budget_values name steps = Number name ∷ Number steps ∷ []

-- a line that was read, as what its bytes say
abbrev pub says_of : {N : Type 0} → NumberView N → Statement N → Says
says_of view statement.Blank = Blank
says_of view statement.Version = Version
says_of view (statement.Entry own e) = OfItem (record {
  own = Some (view.value own);
  tag = tag.Entry (entry_tag e);
  values = entry_values view e;
})
says_of view (statement.Declaration d) = OfItem (record {
  own = None;
  tag = tag.Declaration (declaration_tag d);
  values = declaration_values view d;
})
says_of view (statement.Budget name steps) = OfItem (record {
  own = None;
  tag = tag.Budget;
  values = budget_values (view.value name) steps;
})
says_of view statement.Go = OfItem (record { own = None; tag = tag.Go; values = [] })
says_of view statement.Trace = OfItem (record { own = None; tag = tag.Trace; values = [] })
says_of view (statement.Local own number declared_type) = OfItem (record {
  own = Some (view.value own);
  tag = tag.Local;
  values = Number (view.value number) ∷ Number (view.value declared_type) ∷ [];
})
says_of view (statement.Section unit) = OfItem (record {
  own = None;
  tag = tag.Section;
  values = Number (view.value unit) ∷ [];
})
says_of view (statement.Derivation own line) = OfItem (record {
  own = Some (view.value own);
  tag = tag.Derivation (family_of line.value.rule);
  values = derivation_values view line.value;
})
says_of view (statement.Parts premises) = OfItem (record {
  own = None;
  tag = tag.Parts;
  values = Numbers (view.values premises.items) ∷ [];
})
