use Rattle.std.proofs.Common.{◌≡◌, ℕ, ◌+◌, ◌-◌, ◌^◌, ◌≤◌, List, length}
use Rattle.std.specs.declared.option.Option.{Option}
use Rattle.lk_store.specs.Contents.{Extends}
use Rattle.lk_token.specs.Lines.{HasNoLineFeed}
use Rattle.lk_book.specs.Courses.{IsCounted, Remains}
use Rattle.lk_book.specs.Reading.{ConsumesSome}
use Rattle.lk_book.proofs.file.read_pieces.Given as goal

abbrev pub invariant-pieces : goal.invariant-pieces
invariant-pieces g l =
    let contents = g.T.Terms.contents in
    let left = g.S.Source.left in
    let stands = g.R.LineReader.stands in
    let step = g.R.LineReader.step in
    record {
      piece : length l.piece.items ≡ 2 ^ 16;
      grown : Extends (contents l.fn.store) (contents l.store);
      rest : g.T.Terms.rest l.store ≡ g.T.Terms.rest l.fn.store;
      known : g.R.LineReader.is_known l.reader (contents l.store);
      counted : IsCounted (g.R.LineReader.number l.reader) (g.R.LineReader.before l.reader);
      unfinished : HasNoLineFeed l.held.items;
      short : length l.held.items ≤ 2 ^ 24;
      same_faults : g.S.Source.faults l.source ≡ g.S.Source.faults l.fn.source;
      front : ConsumesSome (left l.fn.source) (left l.source);
      remains : (c : g.R.LineReader.Course) (old : Option (List ℕ)) → Remains step (stands l.fn.reader (contents l.fn.store)) c l.fn.held.items old (left l.fn.source)
          → Remains step (stands l.reader (contents l.store)) c l.held.items old (left l.source);
    }

abbrev pub decreases-pieces : goal.decreases-pieces
decreases-pieces g l = 2 ^ 41 - (g.R.LineReader.before l.reader + length l.held.items)
