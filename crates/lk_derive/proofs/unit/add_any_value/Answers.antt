use Rattle.std.proofs.Common.{[]}
use Rattle.lk_store.specs.Contents.{tree_at}
use Rattle.lk_derive.specs.Units.{value_parts}
use Rattle.lk_derive.proofs.PartsAdded.{nothing_added, adds_as}
use Rattle.lk_derive.proofs.unit.add_any_value.Goals as goal

pub add_value-requires : goal.add_value-requires
add_value-requires g c = rw c.in-Some.is at c.requires

pub returns-in-Some-clause-adds : goal.returns-in-Some-clause-adds
returns-in-Some-clause-adds g c = λ cs h.
    let s = c.args.rows.now in
    let t = c.add_value.new.rows in
    let k = rw c.in-Some.is at h in
    let at = tree_at (g.R.Rows.contents s) in
    adds_as (g.R.Rows.place s) (g.R.Rows.contents s) (g.R.Rows.contents t) c.args.parts.now c.add_value.new.parts c.add_value.result cs (value_parts (at c.in-Some.value) k.0.inferred (at c.args.ty) []) k.1 (c.add_value.ensures.adds k.0)

pub returns-in-None-clause-adds : goal.returns-in-None-clause-adds
returns-in-None-clause-adds g c = λ cs h.
    let rows = c.args.rows.now in
    nothing_added (g.R.Rows.place rows) (g.R.Rows.contents rows) c.args.parts.now cs (rw c.in-None.is at c.requires) (rw c.in-None.is at h)
