use Rattle.std.proofs.Common.{[]}
use Rattle.std.proofs.lemmas.Result.{on_ok_weaker}
use Rattle.lk_recheck.specs.Counts.{room_by}
use Rattle.lk_recheck.specs.Built.{stored_at}
use Rattle.lk_recheck.proofs.Turned.{things_led, one_turned}
use Rattle.lk_recheck.proofs.building.turn_term.Goals as goal

pub add_all-requires-clause-things_in : goal.add_all-requires-clause-things_in
add_all-requires-clause-things_in c =
    things_led (stored_at c.args.base.now []) (room_by c.args.counts.now) c.thing_at-thing.result c.list_term.new.things.items c.deref.result.now c.requires.count.room c.deref.ensures.value c.in_ok-list_term.ensures

pub returns : goal.returns
returns c =
    on_ok_weaker c.add_all.result (one_turned (stored_at c.args.base.now []) (room_by c.args.counts.now) c.args.slot c.args.sources.now c.add_all.new.sources c.thing_at-thing.result c.list_term.new.things.items
    c.deref.result.now c.requires.count.room c.deref.ensures.value c.requires.before c.thing_at-thing.ensures c.in_ok-list_term.ensures) c.add_all.ensures
