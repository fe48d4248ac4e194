use Rattle.std.proofs.Common.{sym, ◌∙◌, ap}
use Rattle.lk_store.specs.Store.{contents_of}
use Rattle.lk_book.specs.File.{export_at}
use Rattle.lk_traced.proofs.Closing.{trace_open, trace_made, trace_told}
use Rattle.lk_traced.proofs.file.finished.Goals as goal

pub returns-in-Err-clause-trace : goal.returns-in-Err-clause-trace
returns-in-Err-clause-trace c = λ t h.
    trace_open c.args.reader (contents_of c.args.store) t h c.in-Err.error (c.in-Err.ensures.ended (contents_of c.args.store) t.course.state t.behind (rw c.gathered-assembler.ensures.behind h.behind))

pub returns-in-Ok-library_of-clause-trace : goal.returns-in-Ok-library_of-clause-trace
returns-in-Ok-library_of-clause-trace c = λ t h.
    trace_made c.args.reader (contents_of c.args.store) t h c.in-Ok.sections (c.in-Ok.ensures.ended (contents_of c.args.store) t.course.state t.behind (rw c.gathered-assembler.ensures.behind h.behind))
    c.in-Ok-library_of.library (ap contents_of c.in-Ok-library_of.ensures.tables) (c.in-Ok-library_of.ensures.library t.course.state (rw c.gathered-assembler.ensures.assembler h.stands.holds))

pub returns-in-Err-library_of-clause-trace : goal.returns-in-Err-library_of-clause-trace
returns-in-Err-library_of-clause-trace c = λ t h.
    trace_told c.args.reader (contents_of c.args.store) t h c.in-Ok.sections (c.in-Ok.ensures.ended (contents_of c.args.store) t.course.state t.behind (rw c.gathered-assembler.ensures.behind h.behind))
    c.in-Err-library_of.error (c.in-Err-library_of.ensures.library t.course.state (rw c.gathered-assembler.ensures.assembler h.stands.holds))

pub library_of-requires : goal.library_of-requires
library_of-requires c = rw c.gathered-assembler.ensures.assembler c.requires.reader_known

pub returns-in-Ok-library_of-clause-sections : goal.returns-in-Ok-library_of-clause-sections
returns-in-Ok-library_of-clause-sections c =
    rw c.in-Ok-library_of.ensures.tables (c.in-Ok.ensures.known (contents_of c.args.store) (rw c.gathered-assembler.ensures.behind c.requires.behind_known))

pub returns-in-Ok-library_of-clause-rising : goal.returns-in-Ok-library_of-clause-rising
returns-in-Ok-library_of-clause-rising c = c.in-Ok.ensures.rising (contents_of c.args.store) (rw c.gathered-assembler.ensures.behind c.requires.behind_known)

pub returns-in-Ok-library_of-clause-declared : goal.returns-in-Ok-library_of-clause-declared
returns-in-Ok-library_of-clause-declared c = λ t h.
    c.in-Ok.ensures.declared (contents_of c.args.store) t.course.state t.behind (export_at c.in-Ok-library_of.library) (rw c.gathered-assembler.ensures.behind c.requires.behind_known) (rw c.gathered-assembler.ensures.behind h.behind)
    (c.in-Ok-library_of.ensures.library t.course.state (rw c.gathered-assembler.ensures.assembler h.stands.holds))
