use Rattle.std.proofs.Common.{◌≡◌, ◌+◌, length, arith}
use Rattle.lk_sections.proofs.Together.{trace_more}
use Rattle.lk_sections.proofs.trace.add_section.Goals as goal

pub returns : goal.returns
returns g c ks ss h =
    let section = c.args.section.now in
    let after : c.in-Some.next ≡ c.args.trace.now.next + length section.lines.items = omega (arith, c.in-Some.ensures.1, c.len.ensures, section.lines.ok.0) in
    trace_more (g.T.Terms.contents c.args.store.now) ks ss c.args.trace.now (record { writer = c.write_section.new.writer; next = c.in-Some.next }) section h c.in_ok-write_section.ensures after
