use Rattle.std.proofs.Common.{◌≡◌, ◌+◌, ◌-◌, ◌^◌, ◌<◌, length}
use Rattle.lk_book.specs.Reading.{Skips}
use Rattle.lk_book.proofs.long.long_line.Given as goal

abbrev pub invariant-loop-read : goal.invariant-loop-read
invariant-loop-read g l = record {
  piece : length l.piece ≡ 2 ^ 16;
  same_faults : g.S.Source.faults l.source ≡ g.S.Source.faults l.fn.source;
  long : 2 ^ 24 < l.count;
  room : l.before + l.count < 2 ^ 41;
  skips : Skips (g.S.Source.left l.fn.source) (g.S.Source.left l.source) l.held l.count;
}

abbrev pub decreases-loop-read : goal.decreases-loop-read
decreases-loop-read g l = 2 ^ 41 - (l.before + l.count)
