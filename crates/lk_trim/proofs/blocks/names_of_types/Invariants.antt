use Rattle.std.proofs.Common.{◌≡◌, take, map}
use Rattle.lk_env.specs.declared.unit.BlockType.{BlockType}
use Rattle.lk_trim.proofs.blocks.names_of_types.Given as goal

abbrev pub invariant-loop-t : goal.invariant-loop-t
invariant-loop-t l = l.names.items ≡ map (λ (x : BlockType). x.name) (take l.t-index l.types)
