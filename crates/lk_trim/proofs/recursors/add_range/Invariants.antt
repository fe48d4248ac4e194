use Rattle.std.proofs.Common.{◌≡◌, ◌++◌, ◌-◌}
use Rattle.std.specs.List.{range_with_len}
use Rattle.lk_trim.specs.Written.{fields}
use Rattle.lk_trim.proofs.recursors.add_range.Given as goal

abbrev pub invariant-each : goal.invariant-each
invariant-each l = l.out.items ++ fields (range_with_len l.number (l.end - l.number)) ≡ l.fn.out.items ++ fields (range_with_len l.first (l.end - l.first))

abbrev pub decreases-each : goal.decreases-each
decreases-each l = l.end - l.number
