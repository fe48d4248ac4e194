use Rattle.std.proofs.Common.{rules}
use Rattle.lk_store.specs.Store.{contents_of}
use Rattle.lk_env.specs.Units.{library_at}
use Rattle.lk_recheck.proofs.Places.{same_places, left_all, left_known, left_fewer}
use Rattle.lk_recheck.proofs.splicing.splice.Goals as goal

pub loop-unit-init : goal.loop-unit-init
loop-unit-init c =
    let at = contents_of c.args.base.now in
    let copied = c.in_ok-units.ensures at c.requires.list_in in
    left_all at (library_at at c.args.list.now) c.args.part.items c.reverse.new.self.items c.in_ok-units.units.items c.in_ok-places.places.items c.reverse.ensures.items c.requires.part_in copied.0 copied.1
    (same_places at c.args.list.now c.in_ok-units.units.items c.in_ok-places.places.items copied.1 c.in_ok-places.ensures)

pub put-requires-clause-unit_in : goal.put-requires-clause-unit_in
put-requires-clause-unit_in c =
    let at = contents_of c.args.base.now in
    left_known at (library_at at c.args.list.now) c.args.part.items c.loop-unit.part.items c.pop.new.self.items c.loop-unit.units.items c.in-Some.unit c.loop-unit.places.items (search rules) c.loop-unit.invariant

pub loop-unit-preserved : goal.loop-unit-preserved
loop-unit-preserved c =
    let at = contents_of c.args.base.now in
    left_fewer at (library_at at c.args.list.now) c.args.part.items c.loop-unit.part.items c.pop.new.self.items c.loop-unit.units.items c.in-Some.unit c.loop-unit.places.items (search rules) c.loop-unit.invariant
    c.put.new.units.items c.put.new.places.items c.in_ok-put.ensures
