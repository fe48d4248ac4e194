-- Places at which what gives an operation on numbers has the laws of the operation.
use Rattle.lk_tree.specs.Operations.{Op}
use Rattle.lk_rulebook.specs.Place.{Place}
use Rattle.lk_rulebook.specs.Literals.{IsOperation}
use Rattle.lk_rulebook.specs.Rules.{MeetsLaws}

-- so it is where each def that gives an operation with laws says yes
abbrev pub IsLawfulPlace : Place → Type 0
IsLawfulPlace w = (op : Op) (o : IsOperation w op) → MeetsLaws w op o.entry
