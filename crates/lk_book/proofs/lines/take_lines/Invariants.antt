use Rattle.std.proofs.Common.{◌≡◌, ◌+◌, length}
use Rattle.lk_store.specs.Contents.{Extends}
use Rattle.lk_book.specs.Courses.{IsCounted, Passes}
use Rattle.lk_book.proofs.lines.take_lines.Given as goal

abbrev pub invariant-loop-line : goal.invariant-loop-line
invariant-loop-line g l =
    let contents = g.T.Terms.contents in
    let number = g.R.LineReader.number in
    let before = g.R.LineReader.before in
    let stands = g.R.LineReader.stands in
    record {
      grown : Extends (contents l.fn.store) (contents l.store);
      rest : g.T.Terms.rest l.store ≡ g.T.Terms.rest l.fn.store;
      known : g.R.LineReader.is_known l.reader (contents l.store);
      counted : IsCounted (number l.reader) (before l.reader);
      counts : before l.reader + length l.rest ≡ before l.fn.reader + length l.bytes;
      passes : (c : g.R.LineReader.Course) → stands l.fn.reader (contents l.fn.store) c → Passes g.R.LineReader.step (stands l.reader (contents l.store)) c l.bytes l.rest;
    }

abbrev pub decreases-loop-line : goal.decreases-loop-line
decreases-loop-line g l = length l.rest
