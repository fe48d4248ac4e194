use Rattle.std.proofs.Common.{sym, ap, ◌∙◌}
use Rattle.lk_written.specs.Section.{unit_at_fault}
use Rattle.lk_written.specs.Outcomes.{by_fault}
use Rattle.lk_store.specs.Store.{contents_of}
use Rattle.lk_env.specs.Units.{unit_at, library_of}
use Rattle.lk_trace.specs.Files.{section_at}
use Rattle.lk_replay.proofs.Numbered.{section_is}
use Rattle.lk_replay.proofs.unit.replay_section.Goals as goal

pub returns : goal.returns
returns c =
    let x = contents_of c.args.library.now.tables in
    let w = c.args.written.now in
    let us = library_of c.args.library.now in
    let u = unit_at x c.args.unit.now in
    c.outcome_of.ensures x
    ∙ ap (by_fault (section_at x w)) (c.in_ok-fault.ensures ∙ ap (unit_at_fault us c.args.number u) (sym (section_is x w c.requires.section_in.numbered)))
