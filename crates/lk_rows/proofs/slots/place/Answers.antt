use Rattle.std.proofs.Common.{length}
use Rattle.lk_rows.proofs.Placing.{comes_within, place_next}
use Rattle.lk_rows.proofs.slots.place.Goals as goal

pub returns : goal.returns
returns c hashes most is placed =
    let tags = c.args.tags.now in
    let s = c.free_from-s.result in
    let comes = comes_within tags (length tags) c.distance.result c.bucket_of-b.result s
    c.distance.ensures.ahead c.distance.ensures.around c.free_from-s.ensures.found in
    rw c.tag_of.ensures (place_next hashes tags c.args.slots.now c.args.hash c.args.i s most c.distance.result
    c.free_from-s.ensures.within c.free_from-s.ensures.free
    (rw c.bucket_of-b.ensures.value at comes) is placed)
