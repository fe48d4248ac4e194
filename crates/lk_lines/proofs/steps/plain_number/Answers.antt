use Rattle.std.proofs.Common.{rules}
use Rattle.lk_lines.proofs.Leading.{plain_lem}
use Rattle.lk_lines.proofs.steps.plain_number.Goals as goal

pub returns-then-is_field_end : goal.returns-then-is_field_end
returns-then-is_field_end c missing limit room =
    plain_lem c.args.line.now _ _ _ missing limit c.without_space-front.ensures c.leading_digits-number.ensures (search rules) (c.is_field_end.ensures (search rules)) (search rules) room
