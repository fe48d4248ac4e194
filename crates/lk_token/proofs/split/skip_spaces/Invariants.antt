use Rattle.std.proofs.Common.{◌≡◌, length}
use Rattle.lk_token.specs.Fields.{skip_spaces}
use Rattle.lk_token.proofs.split.skip_spaces.Given as goal

abbrev pub invariant-loop-rest : goal.invariant-loop-rest
invariant-loop-rest l = skip_spaces l.rest ≡ skip_spaces l.bytes

abbrev pub decreases-loop-rest : goal.decreases-loop-rest
decreases-loop-rest l = length l.rest
