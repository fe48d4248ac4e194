use Rattle.lk_store.specs.Store.{contents_of}
use Rattle.lk_book.proofs.Libraries.{told_library, made_library}
use Rattle.lk_book.proofs.file.library_of.Goals as goal

pub returns-in-Err-clause-library : goal.returns-in-Err-clause-library
returns-in-Err-clause-library c s h =
    told_library c.in-Err.error (contents_of c.args.store) c.args.assembler s (rw (c.freeze.ensures, c.lines_and_budgets-members.ensures.members) at c.in-Err.ensures.fault) h

pub returns-in-Ok-new-clause-library : goal.returns-in-Ok-new-clause-library
returns-in-Ok-new-clause-library c s h =
    made_library c.args.store c.args.assembler c.in-Ok-new.library c.in-Ok.units.items s (rw (c.freeze.ensures, c.lines_and_budgets-members.ensures.budgets) at c.in-Ok-new.ensures)
    (rw (c.freeze.ensures, c.lines_and_budgets-members.ensures.members) at c.in-Ok.ensures.units) h

pub units_of-requires-clause-lines : goal.units_of-requires-clause-lines
units_of-requires-clause-lines c = rw (c.freeze.ensures, c.lines_and_budgets-members.ensures.members) c.requires.lines_in

pub new-requires-clause-budgets : goal.new-requires-clause-budgets
new-requires-clause-budgets c = rw (c.freeze.ensures, c.lines_and_budgets-members.ensures.budgets) c.requires.budgets_in
