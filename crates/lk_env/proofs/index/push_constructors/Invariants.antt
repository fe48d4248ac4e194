use Rattle.std.proofs.Common.{◌≡◌, ◌++◌, map, take}
use Rattle.lk_env.specs.declared.unit.Constructor.{Constructor}
use Rattle.lk_env.proofs.index.push_constructors.Given as goal

abbrev pub invariant-loop-k : goal.invariant-loop-k
invariant-loop-k l = l.names.items ≡ l.initial.names.items ++ map (λ (k : Constructor). k.name) (take l.k-index l.constructors)
