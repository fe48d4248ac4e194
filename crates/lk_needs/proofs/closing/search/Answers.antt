use Rattle.std.proofs.Common.{rules, ◌≡◌, []}
use Rattle.lk_needs.proofs.Searching.{next_known, stepped, stepped_less, searched}
use Rattle.lk_needs.proofs.closing.search.Goals as goal

pub look_through-requires-clause-thing_in : goal.look_through-requires-clause-thing_in
look_through-requires-clause-thing_in c = (next_known c.args.library.now c.args.unit c.requires.unit_in c.waiting.needs c.pop.new.self c.in-Some.thing (search rules) c.waiting.invariant).known

pub look_through-requires-clause-room : goal.look_through-requires-clause-room
look_through-requires-clause-room c = c.waiting.invariant.room

pub waiting-smaller : goal.waiting-smaller
waiting-smaller c = stepped_less c.args.library.now c.args.unit c.requires.unit_in c.waiting.needs c.pop.new.self c.in-Some.thing (search rules) c.waiting.invariant c.look_through.new.needs c.in_ok-look_through.ensures

pub waiting-preserved : goal.waiting-preserved
waiting-preserved c = stepped c.args.library.now c.args.unit c.requires.unit_in c.waiting.needs c.pop.new.self c.in-Some.thing (search rules) c.waiting.invariant c.look_through.new.needs c.in_ok-look_through.ensures

pub returns : goal.returns
returns c =
    let before : c.waiting.needs.waiting.items ≡ [] = search rules in
    let after : c.pop.new.self.items ≡ [] = search rules in
    searched c.args.library.now c.args.unit c.waiting.needs c.pop.new.self before after c.waiting.invariant
