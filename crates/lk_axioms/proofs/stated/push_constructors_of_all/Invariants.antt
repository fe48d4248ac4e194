use Rattle.std.proofs.Common.{◌≡◌, ◌++◌, take}
use Rattle.std.specs.List.{flat_map}
use Rattle.lk_axioms.specs.Stated.{constructor_numbers}
use Rattle.lk_axioms.proofs.stated.push_constructors_of_all.Given as goal

abbrev pub invariant-loop-t : goal.invariant-loop-t
invariant-loop-t l = l.trees.items ≡ l.initial.trees.items ++ flat_map constructor_numbers (take l.t-index l.types)
