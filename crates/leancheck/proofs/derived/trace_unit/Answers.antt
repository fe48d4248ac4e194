use Rattle.std.proofs.Common.{map, Some, ap, ◌∙◌}
use Rattle.lk_store.specs.Store.{contents_of}
use Rattle.lk_env.specs.Units.{unit_at, block_at, recursor_at, library_of}
use Rattle.leancheck.proofs.InOrder.{unit_stands}
use Rattle.leancheck.proofs.SectionsBelow.{block_has_none, passed}
use Rattle.leancheck.proofs.derived.trace_unit.Goals as goal

pub returns-in-Block-clause-written : goal.returns-in-Block-clause-written
returns-in-Block-clause-written g c = λ budget ks same was.
    let l = c.args.library.now in
    let us = library_of l in
    let base = contents_of l.tables in
    let n = c.args.checked.unit in
    let b = c.in-Block.field-0 in
    let u = c.index-units-checked.result in
    let stands = unit_stands base c.units.result.now l.units n u c.requires.number c.units.ensures.value c.index-units-checked.is in
    let at = stands ∙ ap (λ v. Some (unit_at base v)) c.in-Block.is in
    passed us budget n (g.D.Terms.contents c.args.deriver.now.derives) ks c.args.trace.now
    (block_has_none us n (budget n) (block_at base b) (map (recursor_at base) b.recursors.value.items) at) was
