use Rattle.std.proofs.Common.{refl, arith}
use Rattle.std.proofs.lemmas.List.{length-append}
use Rattle.std.proofs.lemmas.List.Elements.{All-push}
use Rattle.lk_desk.specs.Rule.{IsEmptyShard}
use Rattle.lk_desk.proofs.seats.empty_shards.Goals as goal

pub loop-preserved : goal.loop-preserved
loop-preserved c = (rw (c.in_ok-push.ensures.items, length-append) (omega arith), rw c.in_ok-push.ensures.items (All-push IsEmptyShard c.loop.slots.items _ c.loop.invariant.1 (_, refl, c.new.ensures)))
