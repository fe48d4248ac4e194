-- The tests of two trees that Core leaves as they are, behind each one.
use Rattle.std.specs.Prelude.{Bool, false}
use Rattle.lk_tree.specs.Tree.{Tree}
use Rattle.lk_questions.specs.Program.{Program, done}
use Rattle.lk_questions.specs.Pairs.{◌or_else◌}
use Rattle.lk_questions.specs.LiteralLines.{by_string}
use Rattle.lk_questions.specs.Eta.{by_structure_eta, by_unit_eta}

abbrev pub after_eta : Tree → Tree → Program Bool
after_eta a b =
    by_structure_eta a b or_else by_structure_eta b a or_else by_unit_eta a b or_else
    by_string a b or_else done false
