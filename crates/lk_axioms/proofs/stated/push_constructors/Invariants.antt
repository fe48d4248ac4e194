use Rattle.std.proofs.Common.{◌≡◌, ◌++◌, take, map}
use Rattle.lk_env.specs.declared.unit.Constructor.{Constructor}
use Rattle.lk_axioms.proofs.stated.push_constructors.Given as goal

abbrev pub invariant-loop-k : goal.invariant-loop-k
invariant-loop-k l = l.trees.items ≡ l.initial.trees.items ++ map (λ (x : Constructor). x.ty) (take l.k-index l.constructors)
