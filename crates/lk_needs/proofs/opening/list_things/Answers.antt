use Rattle.std.proofs.lemmas.Result.{on_ok_weaker}
use Rattle.lk_needs.proofs.Opened.{unit_leads, name_leads, tree_leads, numbered_leads}
use Rattle.lk_needs.proofs.opening.list_things.Goals as goal

pub returns-in-Unit : goal.returns-in-Unit
returns-in-Unit c =
    let inside = rw c.in-Unit.is at c.requires.thing_in in
    let is = rw c.units.ensures.value at c.index-units-u.is in
    let known = rw c.units.ensures.value at c.units.ensures.known in
    rw c.in-Unit.is (on_ok_weaker c.push_unit.result (λ s. unit_leads c.args.library.now c.args.unit c.in-Unit.u c.args.recursors.now c.index-units-u.result c.clear.new.self.items c.push_unit.new.things.items
    c.requires.recursors known inside is c.clear.ensures.items (rw c.base.ensures at s)) c.push_unit.ensures)

pub returns-in-Name : goal.returns-in-Name
returns-in-Name c =
    rw c.in-Name.is (on_ok_weaker c.push_giver.result (λ s. name_leads c.args.library.now c.args.unit c.in-Name.name c.clear.new.self.items c.push_giver.new.things.items c.clear.ensures.items s) c.push_giver.ensures)

pub view-requires : goal.view-requires
view-requires c = let inside = rw c.in-Tree.is at c.requires.thing_in in rw c.base-in-Tree.ensures inside

pub returns-in-Tree : goal.returns-in-Tree
returns-in-Tree c =
    let known = rw c.base-in-Tree.ensures at c.view.ensures.known in
    let tree = rw c.base-in-Tree.ensures at c.view.ensures.tree in
    rw c.in-Tree.is (on_ok_weaker c.push_node.result (λ s. tree_leads c.args.library.now c.args.unit c.in-Tree.e c.view.result c.clear.new.self.items c.push_node.new.things.items known tree c.clear.ensures.items s) c.push_node.ensures)

pub returns-in-Numbered : goal.returns-in-Numbered
returns-in-Numbered c =
    let inside = rw c.in-Numbered.is at c.requires.thing_in in
    rw c.in-Numbered.is (on_ok_weaker c.push_names.result (λ s. numbered_leads c.args.library.now c.args.unit c.in-Numbered.name c.args.recursors.now c.clear.new.self.items c.push_names.new.things.items
    c.requires.recursors inside c.clear.ensures.items (rw c.of.ensures at s)) c.push_names.ensures)
