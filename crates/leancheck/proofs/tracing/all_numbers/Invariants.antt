use Rattle.std.specs.Prelude.{◌≡◌}
use Rattle.std.specs.List.{range_with_len}
use Rattle.leancheck.proofs.tracing.all_numbers.Given as goal

abbrev pub invariant-loop-n : goal.invariant-loop-n
invariant-loop-n l = l.numbers.items ≡ range_with_len 0 l.n
