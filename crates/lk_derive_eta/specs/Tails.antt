-- The tests behind structure eta, behind each order of it.
use Rattle.std.specs.Prelude.{Bool}
use Rattle.lk_tree.specs.Tree.{Tree}
use Rattle.lk_questions.specs.Program.{Program}
use Rattle.lk_questions.specs.Pairs.{◌or_else◌}
use Rattle.lk_questions.specs.Eta.{by_structure_eta, by_unit_eta}
use Rattle.lk_derive_eta.specs.Texts.{texts_alone}

abbrev pub after_turned : Tree → Tree → Program Bool
after_turned a b = by_unit_eta a b or_else texts_alone a b

abbrev pub after_given : Tree → Tree → Program Bool
after_given a b = by_structure_eta b a or_else after_turned a b
