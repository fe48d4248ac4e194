use Rattle.std.proofs.Common.{rules, ◌≡◌, None}
use Rattle.lk_store.specs.Store.{contents_of}
use Rattle.lk_book.specs.Texts.{ending_fault}
use Rattle.lk_book.specs.ReadingTexts.{cut_of}
use Rattle.lk_book.proofs.Parting.{cut_states}
use Rattle.lk_book.proofs.texts.check_text.Goals as goal

pub closed_units-requires-clause-lines : goal.closed_units-requires-clause-lines
closed_units-requires-clause-lines c = rw c.lines_and_budgets-members.ensures.members c.in-Ok.ensures.known.lines_in

pub returns-in-Ok-closed_units-clause-ok : goal.returns-in-Ok-closed_units-clause-ok
returns-in-Ok-closed_units-clause-ok c =
    let none : None ≡ ending_fault c.args.before (cut_of c.args.text.now c.args.first) = search rules in
    cut_states c.args.before c.args.text.now c.args.first (contents_of c.text_lines.new.store) c.in-Ok.assembler c.in-Ok.ensures.reads none c.in-Ok-closed_units._units.items
    (rw c.lines_and_budgets-members.ensures.members at c.in-Ok-closed_units.ensures.units)
