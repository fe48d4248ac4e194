use Rattle.std.proofs.Common.{◌≡◌, ◌+◌, ◌-◌, ◌*◌, ◌<◌, ◌≤◌, ◌^◌, ◌++◌, string_bytes}
use Rattle.lk_generator.specs.Generated.{beginning, number_at, free_expression, units_to}
use Rattle.lk_generator.proofs.generate.Given as goal

-- the units in front of unit i are written
abbrev pub invariant-loop-i : goal.invariant-loop-i
invariant-loop-i l = record {
  file : string_bytes l.file ≡ beginning ++ units_to l.fn.seed (l.i - 1);
  number : l.number ≡ number_at l.fn.seed (l.i - 1);
  small : l.number < 2 ^ 32;
  free : l.free ≡ free_expression l.fn.seed (l.i - 1);
  few : l.free ≤ 2 + 3 * l.i;
  within : l.i - 1 ≤ l.fn.units - 1;
}
