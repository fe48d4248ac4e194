use Rattle.std.proofs.Common.{length, refl, ap, sym, ◌∙◌}
use Rattle.std.specs.Prelude.{slice_get}
use Rattle.std.proofs.lemmas.Option.{slice_get_read, slice_get_past}
use Rattle.lk_written.specs.Outcomes.{at_fault}
use Rattle.lk_replay.proofs.Numbered.{number_is, number_or}
use Rattle.lk_replay.proofs.unit.outcome_of.Goals as goal

pub returns-in-Some-get : goal.returns-in-Some-get
returns-in-Some-get c x =
    let w = c.args.written.now in
    let ns = w.numbers.items in
    let ms = c.deref.result.now in
    let there = ap (λ zs. slice_get zs c.in-Some.place) (sym c.deref.ensures.value) ∙ slice_get_read ms (length ms) c.in-Some.place c.in-Some-get.line.now refl c.in-Some-get.ensures.lookup.3.0 c.in-Some-get.ensures.lookup.1 in
    rw c.in-Some.is
    (ap at_fault (sym (number_is x ns w.section.lines.items c.requires w.end c.in-Some.place ∙ ap (number_or w.end) there)))

pub returns-in-None-get : goal.returns-in-None-get
returns-in-None-get c x =
    let w = c.args.written.now in
    let ns = w.numbers.items in
    let past = ap (λ zs. slice_get zs c.in-Some.place) (sym c.deref.ensures.value) ∙ slice_get_past c.deref.result.now c.in-Some.place c.in-None-get.ensures.lookup.3 in
    rw c.in-Some.is
    (ap at_fault (sym (number_is x ns w.section.lines.items c.requires w.end c.in-Some.place ∙ ap (number_or w.end) past)))
