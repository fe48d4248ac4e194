use Rattle.std.proofs.Common.{ap, ◌∙◌, sym}
use Rattle.lk_rows.proofs.Placing.{hash_at}
use Rattle.lk_rows.specs.Slots.{hashes_of}
use Rattle.lk_rows.proofs.slots.place_all.Goals as goal

pub loop-i-preserved : goal.loop-i-preserved
loop-i-preserved g c =
    let key = g.R.Row.key in
    let hash = g.R.Row.hash c.args.seed in
    let rows = c.args.rows.now in
    let row = c.index-rows-i.result in
    rw c.max-most.ensures (c.place.ensures (hashes_of key hash rows) c.loop-i.most
    (hash_at key hash rows c.loop-i.i row c.loop-i-test.true ∙ ap (λ r. hash (key r)) (sym c.index-rows-i.is) ∙ sym c.own_hash.ensures)
    c.loop-i.invariant)
