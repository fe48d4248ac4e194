use Rattle.std.proofs.Common.{arith}
use Rattle.lk_rows.proofs.Placing.{nat_cases, taken_all}
use Rattle.lk_rows.proofs.slots.free_around.Goals as goal

pub unreachable-requires : goal.unreachable-requires
unreachable-requires c =
    let before = c.in-None.ensures.none in
    let all = taken_all c.args.tags.now (λ s l. nat_cases s c.args.b _
    (λ below. before s (omega arith) below)
    (λ e. c.requires.taken s (omega arith) l)
    (λ above. c.requires.taken s (omega arith) l)) in
    let room = c.requires.room in
    absurd (omega (arith, all, room))
