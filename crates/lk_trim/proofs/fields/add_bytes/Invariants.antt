use Rattle.std.proofs.Common.{◌≡◌, ◌++◌, length}
use Rattle.lk_trim.specs.Trees.{hex_fields}
use Rattle.lk_trim.proofs.fields.add_bytes.Given as goal

abbrev pub invariant-loop-byte : goal.invariant-loop-byte
invariant-loop-byte l = l.out.items ++ hex_fields l.rest ≡ l.fn.out.items ++ hex_fields l.bytes

abbrev pub decreases-loop-byte : goal.decreases-loop-byte
decreases-loop-byte l = length l.rest
