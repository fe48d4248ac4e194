use Rattle.std.proofs.Common.{sym, ◌∙◌}
use Rattle.lk_book.proofs.Libraries.{open_told}
use Rattle.lk_traced.proofs.Opened.{kinds_made}
use Rattle.lk_traced.proofs.opening.kinds_of.Goals as goal

pub returns-in-Ok-kinds-clause-kinds : goal.returns-in-Ok-kinds-clause-kinds
returns-in-Ok-kinds-clause-kinds g c =
    kinds_made (g.T.Terms.contents c.args.store.now) c.args.members.now.lines.items c.in-Ok-kinds.kinds.items c.count_names-names.ensures.apart c.requires.lines (sym c.in-Ok.ensures ∙ c.in-None.is) c.in-Ok-kinds.ensures

pub returns-in-Some-clause-fault : goal.returns-in-Some-clause-fault
returns-in-Some-clause-fault g c =
    open_told (g.T.Terms.contents c.args.store.now) c.args.members.now.lines.items c.count_names-names.ensures.apart c.requires.lines c.in-Some.line (sym c.in-Ok.ensures ∙ c.in-Some.is)
