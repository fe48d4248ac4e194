use Rattle.std.proofs.Common.{rules}
use Rattle.lk_token.proofs.PairLaws.{pairs_spelled}
use Rattle.lk_token.proofs.hex.hex_pairs.Goals as goal

pub returns-clause-spelled : goal.returns-clause-spelled
returns-clause-spelled c = pairs_spelled _ _ (search rules)
