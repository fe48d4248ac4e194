use Rattle.std.proofs.Common.{◌≡◌, ◌++◌, map, take}
use Rattle.lk_env.specs.declared.unit.Recursor.{Recursor}
use Rattle.lk_env.proofs.index.push_recursors.Given as goal

abbrev pub invariant-loop-r : goal.invariant-loop-r
invariant-loop-r l = l.names.items ≡ l.initial.names.items ++ map (λ (r : Recursor). r.name) (take l.r-index l.recursors)
