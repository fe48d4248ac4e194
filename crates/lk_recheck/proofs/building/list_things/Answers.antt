use Rattle.std.proofs.Common.{◌∙◌, ◌++◌, ap, sym, length}
use Rattle.std.proofs.lemmas.Result.{on_ok_weaker}
use Rattle.lk_store.specs.Contents.{name_at}
use Rattle.lk_env.specs.Places.{position_in}
use Rattle.lk_needs.specs.Things.{giver_things}
use Rattle.lk_needs.specs.Leads.{contents_in}
use Rattle.lk_needs.proofs.Opened.{unit_leads, name_leads}
use Rattle.lk_recheck.specs.Built.{stored_at}
use Rattle.lk_recheck.proofs.Turned.{all_units}
use Rattle.lk_recheck.proofs.building.list_things.Goals as goal

pub returns-in-Unit : goal.returns-in-Unit
returns-in-Unit c =
    let inside = rw c.in-Unit.is at c.requires.thing_in in
    rw c.in-Unit.is (on_ok_weaker c.push_unit.result (λ s. unit_leads (stored_at c.args.base.now c.args.units.now) (length c.args.units.now) c.in-Unit.u c.args.recursors.now c.index-units-u.result c.clear.new.self.items
    c.push_unit.new.things.items c.requires.recursors c.requires.units_in inside c.index-units-u.is c.clear.ensures.items s) c.push_unit.ensures)

pub returns-in-Name : goal.returns-in-Name
returns-in-Name c =
    let l = stored_at c.args.base.now c.args.units.now in
    rw c.in-Name.is (on_ok_weaker c.push_giver.result (λ s. name_leads l (length c.args.units.now) c.in-Name.name c.clear.new.self.items c.push_giver.new.things.items c.clear.ensures.items
    (s ∙ ap (λ us. c.clear.new.self.items ++ giver_things (position_in 0 us (name_at (contents_in l) c.in-Name.name))) (sym (all_units l)))) c.push_giver.ensures)
