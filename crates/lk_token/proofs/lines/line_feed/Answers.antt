use Rattle.std.proofs.Common.{◌==◌}
use Rattle.lk_token.proofs.FirstByte.{first_byte_is_position}
use Rattle.lk_token.proofs.lines.line_feed.Goals as goal

pub returns : goal.returns
returns c = first_byte_is_position (λ b. b == 10) c.args.bytes.now c.find_byte.result c.find_byte.ensures
