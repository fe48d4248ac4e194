use Rattle.std.proofs.Common.{◌∙◌, ap, sym}
use Rattle.std.specs.Prelude.{false}
use Rattle.std.proofs.lemmas.Result.{err_from_is_err_and}
use Rattle.lk_store.proofs.Extending.{Extends-trans}
use Rattle.lk_book.proofs.Remaining.{remains_begin, told_reads, last_line, last_over, ends_reads, ends_stops}
use Rattle.lk_book.proofs.file.read_lines.Goals as goal

pub returns-in_err-read_pieces-clause-reads : goal.returns-in_err-read_pieces-clause-reads
returns-in_err-read_pieces-clause-reads g c = λ d bytes h is.
    let p = err_from_is_err_and c.from_residual.result c.from_residual.ensures.1 in
    let left = g.S.Source.left c.args.source.now in
    let first = remains_begin g.R.LineReader.step _ d c.new-held.result.items left c.new-held.ensures.items h in
    rw (p.1, p.2) (told_reads g.R.LineReader.step (g.R.LineReader.stands c.read_pieces.new.reader (g.T.Terms.contents c.read_pieces.new.store)) d c.in_err-read_pieces.field-0.0 left bytes (c.in_err-read_pieces.ensures.tells d left first) is)

pub returns-in_err-take-clause-reads : goal.returns-in_err-take-clause-reads
returns-in_err-take-clause-reads g c = λ d bytes h is.
    let p = err_from_is_err_and c.from_residual-in_err-take.result c.from_residual-in_err-take.ensures.1 in
    let left = g.S.Source.left c.args.source.now in
    let step = g.R.LineReader.step in
    let first = remains_begin step _ d c.new-held.result.items left c.new-held.ensures.items h in
    let m = c.in_ok-read_pieces.ensures.remains d left first in
    let last = last_over step _ d c.read_pieces.new.held.items _ _ bytes m c.in_ok-read_pieces.ensures.end c.in_ok-read_pieces.ensures.unfinished is in
    rw (p.1, p.2) (ends_stops (g.R.LineReader.stands c.take.new.self (g.T.Terms.contents c.take.new.store)) _ _ _ (last ∙ ap (λ l. step m.passes.course false l) (sym c.deref.ensures.value)) (c.in_err-take.ensures.step m.passes.course m.passes.stands))

pub returns-clause-reads : goal.returns-clause-reads
returns-clause-reads g c = λ d bytes h is.
    let left = g.S.Source.left c.args.source.now in
    let step = g.R.LineReader.step in
    let first = remains_begin step _ d c.new-held.result.items left c.new-held.ensures.items h in
    let m = c.in_ok-read_pieces.ensures.remains d left first in
    let last = last_over step _ d c.read_pieces.new.held.items _ _ bytes m c.in_ok-read_pieces.ensures.end c.in_ok-read_pieces.ensures.unfinished is in
    ends_reads _ _ _ (last ∙ ap (λ l. step m.passes.course false l) (sym c.deref.ensures.value)) (c.in_ok-take.ensures.step m.passes.course m.passes.stands)

pub returns-clause-keeps : goal.returns-clause-keeps
returns-clause-keeps g c = Extends-trans _ _ _ c.in_ok-read_pieces.ensures.keeps c.in_ok-take.ensures.keeps

pub returns-clause-some : goal.returns-clause-some
returns-clause-some g c = λ d h.
    let left = g.S.Source.left c.args.source.now in
    let step = g.R.LineReader.step in
    let first = remains_begin step _ d c.new-held.result.items left c.new-held.ensures.items h in
    let m = c.in_ok-read_pieces.ensures.remains d left first in
    let last = last_line step _ d c.read_pieces.new.held.items _ _ m c.in_ok-read_pieces.ensures.unfinished in
    (m.bytes, ends_reads _ _ _ (last ∙ ap (λ l. step m.passes.course false l) (sym c.deref.ensures.value)) (c.in_ok-take.ensures.step m.passes.course m.passes.stands))
