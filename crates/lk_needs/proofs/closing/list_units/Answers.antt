use Rattle.std.proofs.Common.{◌≡◌, subst, arith}
use Rattle.lk_needs.specs.Marks.{AreListedTo}
use Rattle.lk_needs.proofs.Listed.{none_listed, all_listed}
use Rattle.lk_needs.proofs.closing.list_units.Goals as goal

pub loop-unit-init : goal.loop-unit-init
loop-unit-init c = none_listed c.args.needs.now _ c.new-list.ensures.items

pub returns : goal.returns
returns c =
    let all : c.loop-unit.unit ≡ c.args.count = omega arith in
    all_listed c.args.needs.now c.args.count c.loop-unit.list.items c.requires (subst (λ i. AreListedTo c.args.needs.now i c.loop-unit.list.items) all c.loop-unit.invariant)
