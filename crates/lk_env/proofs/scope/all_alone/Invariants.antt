use Rattle.std.proofs.Common.{◌≡◌, ◌++◌, List, length}
use Rattle.lk_env.specs.declared.unit.BlockType.{BlockType}
use Rattle.lk_env.specs.Scopes.{AreAloneOf}
use Rattle.lk_env.proofs.scope.all_alone.Given as goal

abbrev pub invariant-types : goal.invariant-types
invariant-types l = (done : List BlockType) × (l.fn.stated ≡ done ++ l.rest) × AreAloneOf done l.made.items

abbrev pub decreases-types : goal.decreases-types
decreases-types l = length l.rest
