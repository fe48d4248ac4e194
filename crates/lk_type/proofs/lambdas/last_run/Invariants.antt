use Rattle.std.proofs.Common.{◌≡◌, ◌<◌, ◌++◌, length}
use Rattle.lk_type.specs.Lambdas.{counted}
use Rattle.lk_type.proofs.lambdas.last_run.Given as goal

abbrev pub invariant-numbers : goal.invariant-numbers
invariant-numbers l =
    record {
      some : 0 < l.count;
      is : l.fn.numbers ≡ l.left ++ counted l.first l.count;
    }

abbrev pub decreases-numbers : goal.decreases-numbers
decreases-numbers l = length l.left
