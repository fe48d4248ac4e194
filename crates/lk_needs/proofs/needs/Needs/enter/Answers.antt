use Rattle.lk_needs.proofs.Marked.{known_entered, new_entered}
use Rattle.lk_needs.proofs.needs.Needs.enter.Goals as goal

pub returns-then-mark : goal.returns-then-mark
returns-then-mark c = known_entered c.args.self.now c.mark.new.self c.args.thing c.mark.result c.mark.ensures c.if-mark.true

pub returns : goal.returns
returns c = new_entered c.args.self.now c.mark.new.self c.args.thing c.mark.result c.mark.ensures c.push.new.self c.if-mark.false c.in_ok-push.ensures.items
