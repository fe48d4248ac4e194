use Rattle.std.proofs.Common.{◌<◌, ◌≤◌, true, length, get_or, ap, refl, ◌∙◌, arith}
use Rattle.std.specs.List.{list_all}
use Rattle.std.proofs.lemmas.List.{length-map}
use Rattle.lk_store.specs.Store.{contents_of}
use Rattle.lk_env.specs.Units.{unit_at, library_of}
use Rattle.lk_text.specs.Marks.{marks_of}
use Rattle.lk_text.proofs.Listed.{is_listed, listed}
use Rattle.lk_text.proofs.Marked.{allowed_past, in_marks}
use Rattle.lk_text.proofs.under.allows_unit.Goals as goal

pub returns-then-unit-units : goal.returns-then-unit-units
returns-then-unit-units c = λ p h.
    let l = c.args.library.now in
    let past : length (library_of l) ≤ c.args.unit = omega (arith, length-map l.units (unit_at (contents_of l.tables)), ap length c.units.ensures.value) in
    allowed_past p (library_of l) c.args.unit past

pub of-requires : goal.of-requires
of-requires c =
    let few : c.args.unit < length c.args.library.now.units = omega (arith, ap length c.units.ensures.value) in
    is_listed c.args.library.now c.args.axioms.now c.args.unit c.args.unit c.requires refl few

pub returns : goal.returns
returns c = λ p h.
    let l = c.args.library.now in
    let us = library_of l in
    let n = c.args.unit in
    let few : n < length l.units = omega (arith, ap length c.units.ensures.value) in
    c.are_marked.ensures ∙ ap (λ ms. list_all (λ k. get_or ms k true) c.of.result.now) h ∙ ap (list_all (λ k. get_or (marks_of p us) k true)) (listed l c.args.axioms.now n n c.of.result.now c.requires refl few c.of.ensures)
    ∙ in_marks p us n
