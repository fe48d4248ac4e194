use Rattle.lk_store.specs.Store.{contents_of}
use Rattle.lk_members.specs.Plain.{lines_at}
use Rattle.lk_book.specs.File.{units_stated}
use Rattle.lk_book.proofs.Libraries.{open_tells}
use Rattle.lk_book.proofs.file.units_of.Goals as goal

pub returns-in-Err-clause-fault : goal.returns-in-Err-clause-fault
returns-in-Err-clause-fault c =
    rw c.from.ensures (open_tells c.in-Err.error (units_stated (lines_at (contents_of c.args.store.now) c.args.members.lines.items)) c.in-Err.ensures.fault)
