-- No line feed stands in a line, and so none in the text of a name.
use Rattle.lk_token.specs.Lines.{HasNoLineFeed}
use Rattle.lk_lines.specs.declared.line.EntryLine.{EntryLine}
use Rattle.lk_lines.specs.declared.line.EntryLine.TheVariants as entries
use Rattle.lk_lines.specs.declared.line.Statement.{Statement}
use Rattle.lk_lines.specs.declared.line.Statement.TheVariants as statement

-- if this is a component of a name, its text holds no line feed
abbrev pub EntryHasNoLineFeed : {N : Type 0} → EntryLine N → Type 0
EntryHasNoLineFeed (entries.NameText parent text) = HasNoLineFeed text.now
EntryHasNoLineFeed e = Unit {0}

abbrev pub NamesHaveNoLineFeed : {N : Type 0} → Statement N → Type 0
NamesHaveNoLineFeed (statement.Entry own e) = EntryHasNoLineFeed e
NamesHaveNoLineFeed s = Unit {0}
