use Rattle.std.proofs.Common.{rules, take}
use Rattle.std.proofs.lemmas.Result.{err_from_is_err_and}
use Rattle.lk_book.proofs.Remaining.{remains_more, tells_stop, tells_long, front_more}
use Rattle.lk_book.proofs.file.read_piece.Goals as goal

pub returns-in_err-take_piece-clause-tells : goal.returns-in_err-take_piece-clause-tells
returns-in_err-take_piece-clause-tells g c = λ d old m.
    let p = err_from_is_err_and c.from_residual-in_err-take_piece.result c.from_residual-in_err-take_piece.ensures.1 in
    rw (p.1, p.2)
    (tells_stop g.R.LineReader.step _ d c.args.held.now.items (take c.in_ok-read.read c.read.new.into) old _ _ _ m c.in_ok-read.ensures.bytes.0 (c.in_err-take_piece.ensures.stops m.passes.course m.passes.stands))

pub returns-in_err-word-clause-front : goal.returns-in_err-word-clause-front
returns-in_err-word-clause-front g c = front_more _ _ _ (take c.in_ok-read.read c.read.new.into) c.in_ok-read.ensures.bytes.0 c.in_err-word.ensures.front

pub returns-then-len-gt-MAX_LINE-clause-tells : goal.returns-then-len-gt-MAX_LINE-clause-tells
returns-then-len-gt-MAX_LINE-clause-tells g c = λ d old m.
    let reader = c.take_piece.new.reader in
    let n = remains_more g.R.LineReader.step _ (g.R.LineReader.stands reader (g.T.Terms.contents c.take_piece.new.store)) d c.args.held.now.items c.take_piece.new.held.items (take c.in_ok-read.read c.read.new.into) old _ _ m c.in_ok-read.ensures.bytes.0
    (c.in_ok-take_piece.ensures.passes m.passes.course m.passes.stands) in
    rw c.lines_taken.ensures
    (tells_long g.R.LineReader.step _ d (g.R.LineReader.number reader) (g.R.LineReader.before reader) c.take_piece.new.held.items old _ _ n
    (λ feed line w. g.met.R.LineReader.limited reader (g.T.Terms.contents c.take_piece.new.store) n.passes.course feed line w n.passes.stands)
    (λ rest is. rw c.bytes_taken.ensures at c.in_ok-word.ensures.word c.take_piece.new.held.items rest c.in_ok-take_piece.ensures.unfinished (search rules) is))

pub returns-then-len-gt-MAX_LINE-clause-front : goal.returns-then-len-gt-MAX_LINE-clause-front
returns-then-len-gt-MAX_LINE-clause-front g c = front_more _ _ _ (take c.in_ok-read.read c.read.new.into) c.in_ok-read.ensures.bytes.0 c.in_ok-word.ensures.front

pub returns-clause-remains : goal.returns-clause-remains
returns-clause-remains g c = λ d old m.
    remains_more g.R.LineReader.step _ (g.R.LineReader.stands c.take_piece.new.reader (g.T.Terms.contents c.take_piece.new.store)) d c.args.held.now.items c.take_piece.new.held.items (take c.in_ok-read.read c.read.new.into) old _ _ m c.in_ok-read.ensures.bytes.0
    (c.in_ok-take_piece.ensures.passes m.passes.course m.passes.stands)
