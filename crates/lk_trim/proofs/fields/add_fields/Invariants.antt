use Rattle.std.proofs.Common.{◌≡◌, ◌++◌, length}
use Rattle.lk_trim.specs.Written.{fields}
use Rattle.lk_trim.proofs.fields.add_fields.Given as goal

abbrev pub invariant-loop-n : goal.invariant-loop-n
invariant-loop-n l = l.out.items ++ fields l.rest ≡ l.fn.out.items ++ fields l.ns

abbrev pub decreases-loop-n : goal.decreases-loop-n
decreases-loop-n l = length l.rest
