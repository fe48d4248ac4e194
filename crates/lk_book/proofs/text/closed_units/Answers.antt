use Rattle.lk_book.proofs.Libraries.{units_made, open_told}
use Rattle.lk_book.proofs.text.closed_units.Goals as goal

pub returns-in-Ok-clause-known : goal.returns-in-Ok-clause-known
returns-in-Ok-clause-known g c = c.in-Ok.ensures.known (g.T.Terms.contents c.args.store.now) c.requires.lines

pub returns-in-Ok-clause-units : goal.returns-in-Ok-clause-units
returns-in-Ok-clause-units g c =
    units_made (g.T.Terms.contents c.args.store.now) c.args.members.lines.items c.count_names-names.ensures.apart c.requires.lines c.in-Ok.units.items c.in-Ok.ensures.open
    (c.in-Ok.ensures.units (g.T.Terms.contents c.args.store.now))

pub returns-in-Err-Open-clause-fault : goal.returns-in-Err-Open-clause-fault
returns-in-Err-Open-clause-fault g c =
    open_told (g.T.Terms.contents c.args.store.now) c.args.members.lines.items c.count_names-names.ensures.apart c.requires.lines c.in-Err-Open.line (rw c.in-Err-Open.field-0-is at c.in-Err-Open.ensures.open)
