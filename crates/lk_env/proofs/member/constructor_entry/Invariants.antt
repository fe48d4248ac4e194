use Rattle.std.proofs.Common.{◌≡◌, ◌+◌, length, take}
use Rattle.std.specs.List.{flat_map}
use Rattle.lk_env.specs.Index.{constructor_names}
use Rattle.lk_env.proofs.member.constructor_entry.Given as goal

abbrev pub invariant-loop-i : goal.invariant-loop-i
invariant-loop-i l = length (flat_map constructor_names (take l.i l.types)) + l.rest ≡ l.place
