use Rattle.std.proofs.Common.{◌∙◌, false, sym}
use Rattle.std.proofs.lemmas.List.{get_or_read}
use Rattle.lk_recheck.proofs.Spreading.{unit_opened, still_shut}
use Rattle.lk_recheck.proofs.hitting.open.Goals as goal

pub returns-in_ok-push-clause-opened : goal.returns-in_ok-push-clause-opened
returns-in_ok-push-clause-opened c = λ r t changed u.
    unit_opened r t changed c.args.unit c.args.hits.now u c.push.new.self
    (sym (get_or_read c.args.hits.now.units.items c.args.unit c.index.result.now c.requires.unit_in c.index.ensures false) ∙ c.if-index.true) c.in_ok-push.ensures.items

pub returns-else-index-clause-opened : goal.returns-else-index-clause-opened
returns-else-index-clause-opened c = λ r t changed u.
    still_shut r t changed c.args.unit c.args.hits.now u
    (sym (get_or_read c.args.hits.now.units.items c.args.unit c.index.result.now c.requires.unit_in c.index.ensures false) ∙ c.if-index.false)
