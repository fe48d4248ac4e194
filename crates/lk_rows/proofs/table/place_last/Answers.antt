use Rattle.lk_rows.proofs.Placing.{last_filled}
use Rattle.lk_rows.proofs.table.place_last.Goals as goal

pub returns : goal.returns
returns g c =
    last_filled g.R.Row.key g.R.Row.hash c.args.rows.now c.args.tags.now c.args.slots.now c.place.new.tags c.place.new.slots
    c.args.most c.max.result c.args.seed c.args.hash c.hash_of_row-hash.result c.index-rows-i.result
    c.requires.last c.requires.room c.place.auto.tags c.index-rows-i.is c.hash_of_row-hash.ensures
    (λ hashes is placed. rw c.max.ensures (c.place.ensures hashes c.args.most is placed))
