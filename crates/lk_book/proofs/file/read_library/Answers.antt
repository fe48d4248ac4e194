use Rattle.lk_store.specs.Store.{contents_of}
use Rattle.lk_book.specs.File.{course_of, export_stated}
use Rattle.lk_book.specs.Reading.{ReadsLibrary}
use Rattle.lk_book.proofs.Libraries.{file_read, library_not_read}
use Rattle.lk_book.proofs.file.read_library.Goals as goal

pub returns-in-Ok-clause-reads : goal.returns-in-Ok-clause-reads
returns-in-Ok-clause-reads g c = λ bytes is.
    file_read export_stated (λ x. ReadsLibrary x c.library_of.result) (course_of bytes) (contents_of c.read_all_lines.new.store) c.in-Ok.assembler (c.in-Ok.ensures.reads bytes is) c.library_of.ensures.library

pub returns-in-Err-clause-reads : goal.returns-in-Err-clause-reads
returns-in-Err-clause-reads g c = λ bytes is. library_not_read bytes (contents_of c.read_all_lines.new.store) c.in-Err.error (c.in-Err.ensures.reads bytes is)
