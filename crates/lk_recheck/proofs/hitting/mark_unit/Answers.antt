use Rattle.std.proofs.lemmas.Result.{on_ok_weaker}
use Rattle.lk_recheck.specs.Counts.{room_by}
use Rattle.lk_recheck.proofs.Telling.{one_told}
use Rattle.lk_recheck.proofs.hitting.mark_unit.Goals as goal

pub returns-clause-marked : goal.returns-clause-marked
returns-clause-marked c =
    on_ok_weaker c.spread.result (λ s changed m. record {
      spread = s changed (c.in_ok-open.ensures.opened (room_by c.args.counts.now) c.args.sources.now changed m.spread);
      tells = one_told (room_by c.args.counts.now) c.args.sources.now changed c.args.things.now c.args.unit c.args.hits.now m.spread c.is_hit.result c.is_hit.ensures c.args.marks.now.items c.push.new.self.items m.tells c.in_ok-push.ensures.items;
    }) c.spread.ensures.spread
