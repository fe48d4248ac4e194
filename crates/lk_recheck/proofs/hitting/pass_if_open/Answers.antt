use Rattle.std.proofs.Common.{◌≡◌, false, true, refl}
use Rattle.std.proofs.lemmas.Result.{on_ok_weaker}
use Rattle.lk_recheck.specs.Counts.{room_by}
use Rattle.lk_recheck.proofs.Spreading.{open_steps, closed_steps}
use Rattle.lk_recheck.proofs.hitting.pass_if_open.Goals as goal

pub returns-then-is_open : goal.returns-then-is_open
returns-then-is_open c =
    on_ok_weaker c.pass_on.result (λ p. open_steps (room_by c.args.counts.now) c.args.sources.now c.args.units c.args.thing c.args.hits.now c.pass_on.new.hits c.slot_of-target.result c.slot_of-target.ensures (c.if-is_open.ensures.0 refl) p) c.pass_on.ensures

pub returns-else-is_open : goal.returns-else-is_open
returns-else-is_open c = closed_steps (room_by c.args.counts.now) c.args.sources.now c.args.units c.args.thing c.args.hits.now (λ o. let t : false ≡ true = c.if-is_open.ensures.1 o in absurd cc)
