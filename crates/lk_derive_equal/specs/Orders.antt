-- A test of Same, and others behind it.
use Rattle.std.specs.Prelude.{Bool}
use Rattle.lk_questions.specs.Pairs.{Line, ◌or_else◌}
use Rattle.lk_questions.specs.Program.{Program}

abbrev pub first_of : Line → Program Bool → Program Bool
first_of line others = line or_else others
