use Rattle.std.proofs.Common.{◌≡◌, ◌++◌, map, take}
use Rattle.lk_env.specs.declared.unit.BlockType.{BlockType}
use Rattle.lk_mentions.proofs.names.push_names.Given as goal

abbrev pub invariant-loop-t : goal.invariant-loop-t
invariant-loop-t l = l.names.items ≡ l.initial.names.items ++ map (λ (t : BlockType). t.name) (take l.t-index l.types)
