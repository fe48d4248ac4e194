use Rattle.std.proofs.Common.{◌∙◌, sym, ap}
use Rattle.lk_env.specs.Units.{library_of}
use Rattle.lk_text.specs.Named.{first_printed, unknown_line}
use Rattle.leancheck.proofs.Needed.{told_unit, told_none}
use Rattle.leancheck.proofs.trimming.trimmed.Goals as goal

pub returns-in_ok-text-in-Some-clause-gives : goal.returns-in_ok-text-in-Some-clause-gives
returns-in_ok-text-in-Some-clause-gives c = λ bytes reads.
    told_unit c.args.library.now bytes c.args.name.now c.in-Some.unit c.in_ok-text-in-Some.text.items reads
    (sym c.in-Some.is ∙ c.in_ok-unit.ensures.first ∙ ap (first_printed 0 (library_of c.args.library.now)) c.as_bytes.ensures.value)
    (c.in_ok-text-in-Some.ensures bytes reads)

pub returns-in_ok-line-in-None-clause-gives : goal.returns-in_ok-line-in-None-clause-gives
returns-in_ok-line-in-None-clause-gives c = λ bytes reads.
    told_none c.args.library.now bytes c.args.name.now c.in_ok-line-in-None.line.items reads
    (sym c.in-None.is ∙ c.in_ok-unit.ensures.first ∙ ap (first_printed 0 (library_of c.args.library.now)) c.as_bytes.ensures.value)
    (c.in_ok-line-in-None.ensures ∙ ap unknown_line c.as_bytes-in-None.ensures.value)
