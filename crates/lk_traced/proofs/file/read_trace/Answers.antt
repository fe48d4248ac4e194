use Rattle.lk_store.specs.Store.{contents_of}
use Rattle.lk_traced.specs.Course.{begin_trace}
use Rattle.lk_traced.proofs.Tracing.{file_read, file_told}
use Rattle.lk_traced.proofs.file.read_trace.Goals as goal

pub returns-in-Ok-read_lines-clause-reads : goal.returns-in-Ok-read_lines-clause-reads
returns-in-Ok-read_lines-clause-reads g c = λ bytes is.
    file_read c.read_lines.new.reader (contents_of c.read_lines.new.store) bytes c.finished.result (c.in-Ok-read_lines.ensures.reads begin_trace bytes c.in-Ok.ensures.stands is) c.finished.ensures.trace

pub returns-in-Ok-read_lines-clause-declared : goal.returns-in-Ok-read_lines-clause-declared
returns-in-Ok-read_lines-clause-declared g c =
    let some = c.in-Ok-read_lines.ensures.some begin_trace c.in-Ok.ensures.stands in
    c.finished.ensures.declared some.1.0 some.1.2

pub returns-in-Err-read_lines-clause-reads : goal.returns-in-Err-read_lines-clause-reads
returns-in-Err-read_lines-clause-reads g c = λ bytes is.
    file_told c.read_lines.new.reader (contents_of c.read_lines.new.store) bytes c.in-Err-read_lines.error (c.in-Err-read_lines.ensures.reads begin_trace bytes c.in-Ok.ensures.stands is)
