use Rattle.std.proofs.lemmas.Result.{err_from_is_err_and}
use Rattle.lk_store.proofs.Extending.{Extends-trans}
use Rattle.lk_book.specs.Texts.{begin_behind}
use Rattle.lk_book.proofs.TextsRead.{begins_behind, lines_held, lines_fail}
use Rattle.lk_book.proofs.text.text_lines.Goals as goal

pub returns-in_err-read_bytes-clause-reads : goal.returns-in_err-read_bytes-clause-reads
returns-in_err-read_bytes-clause-reads g c =
    let p = err_from_is_err_and c.from_residual.result c.from_residual.ensures.1 in
    let first = begins_behind c.args.before c.in-Ok.assembler (g.T.Terms.contents c.new.new.store) c.in-Ok.ensures.holds in
    rw (p.1, p.2) (lines_fail c.args.before c.in_err-read_bytes.field-0.0 c.args.text.now (c.in_err-read_bytes.ensures.reads (begin_behind c.args.before) first))

pub returns-clause-keeps : goal.returns-clause-keeps
returns-clause-keeps g c = Extends-trans _ _ _ c.in-Ok.ensures.keeps c.in_ok-read_bytes.ensures.keeps

pub returns-clause-reads : goal.returns-clause-reads
returns-clause-reads g c =
    let first = begins_behind c.args.before c.in-Ok.assembler (g.T.Terms.contents c.new.new.store) c.in-Ok.ensures.holds in
    rw c.assembler_of.ensures
    (lines_held c.args.before c.read_bytes.new.reader (g.T.Terms.contents c.read_bytes.new.store) c.args.text.now (c.in_ok-read_bytes.ensures.reads (begin_behind c.args.before) first))
