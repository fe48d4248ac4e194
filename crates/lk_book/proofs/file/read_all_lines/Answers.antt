use Rattle.std.proofs.lemmas.Result.{err_from_is_err_and}
use Rattle.lk_store.proofs.Extending.{Extends-trans}
use Rattle.lk_book.specs.Course.{begin_in}
use Rattle.lk_book.proofs.Overs.{begins, lines_read, lines_told}
use Rattle.lk_book.proofs.file.read_all_lines.Goals as goal

pub returns-in_err-read_lines-clause-reads : goal.returns-in_err-read_lines-clause-reads
returns-in_err-read_lines-clause-reads g c = λ bytes is.
    let p = err_from_is_err_and c.from_residual.result c.from_residual.ensures.1 in
    rw (p.1, p.2)
    (lines_told c.args.dialect c.read_lines.new.reader (g.T.Terms.contents c.read_lines.new.store) bytes c.in_err-read_lines.field-0.0 (c.in_err-read_lines.ensures.reads (begin_in c.args.dialect) bytes (begins c.args.dialect c.in-Ok.assembler _ c.in-Ok.ensures.holds) is))

pub returns-clause-reads : goal.returns-clause-reads
returns-clause-reads g c = λ bytes is.
    rw c.assembler_of.ensures
    (lines_read c.args.dialect c.read_lines.new.reader (g.T.Terms.contents c.read_lines.new.store) bytes (c.in_ok-read_lines.ensures.reads (begin_in c.args.dialect) bytes (begins c.args.dialect c.in-Ok.assembler _ c.in-Ok.ensures.holds) is))

pub returns-clause-keeps : goal.returns-clause-keeps
returns-clause-keeps g c = Extends-trans _ _ _ c.in-Ok.ensures.keeps c.read_lines.ensures.keeps

pub returns-clause-some : goal.returns-clause-some
returns-clause-some g c =
    let some = c.in_ok-read_lines.ensures.some (begin_in c.args.dialect) (begins c.args.dialect c.in-Ok.assembler _ c.in-Ok.ensures.holds) in
    rw c.assembler_of.ensures (some.0, lines_read c.args.dialect c.read_lines.new.reader (g.T.Terms.contents c.read_lines.new.store) some.0 some.1)
