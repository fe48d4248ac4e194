use Rattle.std.proofs.Common.{◌≡◌, ◌++◌, take}
use Rattle.std.specs.List.{flat_map}
use Rattle.lk_axioms.specs.Stated.{recursor_numbers}
use Rattle.lk_axioms.proofs.stated.push_recursors.Given as goal

abbrev pub invariant-loop-r : goal.invariant-loop-r
invariant-loop-r l = l.trees.items ≡ l.initial.trees.items ++ flat_map recursor_numbers (take l.r-index l.recursors)
