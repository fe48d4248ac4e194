use Rattle.std.proofs.Common.{arith}
use Rattle.lk_token.proofs.FieldLaws.{all_spaces, first_begins}
use Rattle.lk_token.proofs.split.first_byte.Goals as goal

pub returns-in-empty : goal.returns-in-empty
returns-in-empty c = all_spaces _ _ c.skip_spaces.ensures (let lt = c.in-empty.len_below in omega arith)

pub returns-in-len1-up : goal.returns-in-len1-up
returns-in-len1-up c = first_begins _ _ c.skip_spaces.ensures (let le = c.in-len1-up.len_at_least in omega arith)
