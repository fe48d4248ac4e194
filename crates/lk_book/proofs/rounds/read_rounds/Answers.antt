use Rattle.lk_store.specs.Store.{contents_of}
use Rattle.lk_lines.specs.declared.tags.Dialect.TheVariants.{Rounds}
use Rattle.lk_book.specs.File.{course_in, rounds_stated}
use Rattle.lk_book.specs.Reading.{ReadsRounds}
use Rattle.lk_book.proofs.Libraries.{file_read}
use Rattle.lk_book.proofs.Parted.{rounds_not_read, parts_stated_by}
use Rattle.lk_book.proofs.rounds.read_rounds.Goals as goal

pub returns-in-Ok-clause-reads : goal.returns-in-Ok-clause-reads
returns-in-Ok-clause-reads g c = λ bytes is.
    file_read rounds_stated (λ x. ReadsRounds x c.rounds_in.result) (course_in Rounds bytes) (contents_of c.read_all_lines.new.store) c.in-Ok.assembler (c.in-Ok.ensures.reads bytes is) c.rounds_in.ensures.rounds

pub returns-in-Err-clause-reads : goal.returns-in-Err-clause-reads
returns-in-Err-clause-reads g c = λ bytes is. rounds_not_read bytes (contents_of c.read_all_lines.new.store) c.in-Err.error (c.in-Err.ensures.reads bytes is)

pub returns-in-Ok-clause-stated : goal.returns-in-Ok-clause-stated
returns-in-Ok-clause-stated g c =
    let some = c.in-Ok.ensures.some in
    parts_stated_by some.0 c.rounds_in.result
    (file_read rounds_stated (λ x. ReadsRounds x c.rounds_in.result) (course_in Rounds some.0) (contents_of c.read_all_lines.new.store) c.in-Ok.assembler some.1 c.rounds_in.ensures.rounds)
