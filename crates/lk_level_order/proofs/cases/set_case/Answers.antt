use Rattle.std.proofs.Common.{rules, ◌≡◌, ◌++◌, ◌∷◌, [], ◌%◌}
use Rattle.lk_level_order.proofs.Asked.{digits_start, digits_more, digits_end}
use Rattle.lk_level_order.proofs.cases.set_case.Goals as goal

pub loop-at-init : goal.loop-at-init
loop-at-init c = digits_start c.clear.new.self.items c.args.count c.args.case (search rules)

pub loop-at-preserved : goal.loop-at-preserved
loop-at-preserved c =
    let pushed : c.push.new.self.items ≡ c.loop-at.assignment.items ++ (c.loop-at.rest % 2) ∷ [] = search rules in
    rw pushed (digits_more c.loop-at.assignment.items c.args.count c.loop-at.at c.loop-at.rest c.args.case c.loop-at-test.true c.loop-at.invariant)

pub returns : goal.returns
returns c = digits_end c.loop-at.assignment.items c.args.count c.loop-at.at c.loop-at.rest c.args.case c.loop-at-test.false c.loop-at.invariant
