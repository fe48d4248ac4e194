use Rattle.std.proofs.Common.{◌∙◌, false, sym}
use Rattle.std.proofs.lemmas.List.{get_or_read}
use Rattle.lk_needs.proofs.Listed.{one_listed, not_listed}
use Rattle.lk_needs.proofs.closing.push_if_needed.Goals as goal

pub returns-in_ok-push : goal.returns-in_ok-push
returns-in_ok-push c = one_listed c.args.needs.now c.args.unit c.args.list.now.items c.requires.before c.push.new.self.items (sym (get_or_read c.args.needs.now.units.items c.args.unit c.index.result.now c.requires.unit_in c.index.ensures false) ∙ c.if-index.true) c.in_ok-push.ensures.items

pub returns-else-index : goal.returns-else-index
returns-else-index c = not_listed c.args.needs.now c.args.unit c.args.list.now.items c.requires.before (sym (get_or_read c.args.needs.now.units.items c.args.unit c.index.result.now c.requires.unit_in c.index.ensures false) ∙ c.if-index.false)
