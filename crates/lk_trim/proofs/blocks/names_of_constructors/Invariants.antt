use Rattle.std.proofs.Common.{◌≡◌, take, map}
use Rattle.lk_env.specs.declared.unit.Constructor.{Constructor}
use Rattle.lk_trim.proofs.blocks.names_of_constructors.Given as goal

abbrev pub invariant-loop-k : goal.invariant-loop-k
invariant-loop-k l = l.names.items ≡ map (λ (x : Constructor). x.name) (take l.k-index l.constructors)
