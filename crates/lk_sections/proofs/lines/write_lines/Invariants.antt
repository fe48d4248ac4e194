use Rattle.std.proofs.Common.{◌≡◌, length, map}
use Rattle.std.specs.Prelude.{All}
use Rattle.lk_trace.specs.Meaning.{line_of, IsLineIn}
use Rattle.lk_trim.specs.Stored.{file_at, AreNumbersIn}
use Rattle.lk_sections.specs.Lines.{write_lines}
use Rattle.lk_sections.proofs.lines.write_lines.Given as goal

abbrev pub invariant-loop-line : goal.invariant-loop-line
invariant-loop-line g l =
    let c = g.T.Terms.contents l.store in
    record {
      numbers : AreNumbersIn c l.writer.numbers;
      known : All (IsLineIn c) l.rest;
      leads : write_lines l.first l.number (map (line_of c) l.rest) (file_at c l.writer) ≡ write_lines l.first l.first (map (line_of c) l.lines) (file_at c l.fn.writer);
    }

abbrev pub decreases-loop-line : goal.decreases-loop-line
decreases-loop-line g l = length l.rest
