use Rattle.std.proofs.Common.{◌≡◌, length}
use Rattle.lk_token.specs.Fields.{fields_of}
use Rattle.lk_token.specs.Hex.{pairs_of}
use Rattle.lk_token.proofs.PairLaws.{after_bytes}
use Rattle.lk_token.proofs.hex.hex_pairs.Given as goal

abbrev pub invariant-loop-field : goal.invariant-loop-field
invariant-loop-field l = after_bytes l.found.items (pairs_of (fields_of l.rest)) ≡ pairs_of (fields_of l.line)

abbrev pub decreases-loop-field : goal.decreases-loop-field
decreases-loop-field l = length (fields_of l.rest)
