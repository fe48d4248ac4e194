use Rattle.std.proofs.Common.{◌≡◌, ◌++◌, take, map}
use Rattle.lk_env.specs.declared.unit.BlockType.{BlockType}
use Rattle.lk_axioms.proofs.stated.push_types.Given as goal

abbrev pub invariant-loop-t : goal.invariant-loop-t
invariant-loop-t l = l.trees.items ≡ l.initial.trees.items ++ map (λ (x : BlockType). x.ty) (take l.t-index l.types)
