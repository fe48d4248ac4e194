use Rattle.std.proofs.Common.{◌≡◌, ◌++◌, take}
use Rattle.std.specs.List.{flat_map}
use Rattle.lk_env.specs.Index.{constructor_names}
use Rattle.lk_env.proofs.index.push_constructors_of_all.Given as goal

abbrev pub invariant-loop-t : goal.invariant-loop-t
invariant-loop-t l = l.names.items ≡ l.initial.names.items ++ flat_map constructor_names (take l.t-index l.types)
