use Rattle.std.proofs.Common.{map}
use Rattle.std.proofs.lemmas.List.Elements.{All-rest}
use Rattle.lk_trace.specs.Meaning.{line_of, IsLineIn}
use Rattle.lk_trim.specs.Stored.{file_at}
use Rattle.lk_trim.proofs.Chains.{first_known}
use Rattle.lk_sections.specs.Lines.{write_lines}
use Rattle.lk_sections.proofs.Written.{lines_more}
use Rattle.lk_sections.proofs.lines.write_lines.Goals as goal

pub write_line-requires-clause-line_in : goal.write_line-requires-clause-line_in
write_line-requires-clause-line_in g c =
    first_known (IsLineIn (g.T.Terms.contents c.args.store.now)) c.in-Some.line.now c.in-Some.more.now c.loop-line.rest.now c.in-Some.ensures.cases.0 c.loop-line.invariant.known

pub loop-line-preserved : goal.loop-line-preserved
loop-line-preserved g c =
    let s = g.T.Terms.contents c.args.store.now in
    record {
      numbers = c.in_ok-write_line.ensures.numbers;
      known = All-rest (IsLineIn s) c.in-Some.line.now c.in-Some.more.now c.loop-line.rest.now c.in-Some.ensures.cases.0 c.loop-line.invariant.known;
      leads = lines_more s c.args.first c.loop-line.number c.in-Some-checked_add.next c.in-Some.line.now c.loop-line.rest.now c.in-Some.more.now (file_at s c.loop-line.writer) (file_at s c.write_line.new.writer) (write_lines c.args.first c.args.first (map (line_of s) c.args.lines.now) (file_at s c.args.writer.now))
          c.in-Some.ensures.cases.0 c.in-Some-checked_add.ensures.1 c.in_ok-write_line.ensures.file c.loop-line.invariant.leads;
    }
