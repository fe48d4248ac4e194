-- Sorts that are asked for, whatever their levels are.
use Rattle.std.specs.Prelude.{List}
use Rattle.lk_rulebook.specs.Place.{BlockType, Ctor}
use Rattle.lk_questions.specs.Program.{Program, done, ◌>>=◌}
use Rattle.lk_questions.specs.Declarations.{Yes, checked}
use Rattle.lk_inductive.specs.BlockSteps.{ctor_sorts, all_ctor_sorts}

abbrev pub constructors_form : List Ctor → Program Yes
constructors_form cs = ctor_sorts cs >>= λ ls. done checked

abbrev pub sorts_form : List BlockType → Program Yes
sorts_form ts = all_ctor_sorts ts >>= λ ls. done checked
