use Rattle.std.proofs.Common.{Some, rules}
use Rattle.lk_desk.proofs.Allowed.{take_allows}
use Rattle.lk_desk.specs.Seats.{job}
use Rattle.lk_desk.proofs.Taking.{took, head_rest}
use Rattle.lk_desk.proofs.table.Desk.take.Goals as goal

pub swap-requires : goal.swap-requires
swap-requires c = (search rules, search rules, take_allows (job c.args.self.now) c.args.self.now.table.shared.table_id.slots c.args.seat.now.token.id c.args.shard c.requires.shard c.args.seat.now.token.me c.args.seat.now.alive)

pub exchange-requires : goal.exchange-requires
exchange-requires c =
    let t = took c.args.self.now.table.shared.table_id.slots c.args.shard c.swap.result c.args.seat.now.token.me c.swap.new.seat.me c.if-swap-ne0.false c.swap.ensures.2 in
    (search rules, (Some t.0, head_rest _ _ (c.args.shard, Some t.0) t.2))
