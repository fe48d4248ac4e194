use Rattle.std.proofs.Common.{Option, None, Some}
use Rattle.std.specs.Prelude.{IfNone}
use Rattle.lk_rows.proofs.Placing.{absent}
use Rattle.lk_rows.proofs.slots.find_placed.Goals as goal

if_none : {X : Type 0} {P Q : Type 0} (x : Option X) → (P → Q) → IfNone x P → IfNone x Q
if_none None f p = f p
if_none (Some y) f p = p

pub returns-clause-absent : goal.returns-clause-absent
returns-clause-absent g c =
    let tags = c.args.tags.now in
    if_none c.find_from.result
    (absent g.R.Row.key (g.R.Row.hash c.args.seed) c.args.rows.now tags c.args.slots.now c.args.most c.args.key.now c.requires.filled)
    (rw c.requires.hash at rw c.bucket_of-b.ensures.value at rw c.tag_of.ensures at c.find_from.ensures.none)
