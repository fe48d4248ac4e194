use Rattle.std.proofs.Common.{map}
use Rattle.lk_store.specs.Contents.{name_at}
use Rattle.lk_env.specs.Units.{recursor_at}
use Rattle.lk_trim.specs.Written.{fields, counted}
use Rattle.lk_trim.specs.Names.{name_numbers}
use Rattle.lk_trim.specs.Units.{rec_head, shape_fields}
use Rattle.lk_trim.specs.Stored.{written_at}
use Rattle.lk_trim.proofs.Chains.{four_parts}
use Rattle.lk_trim.proofs.recursors.add_recursor.Goals as goal

pub returns : goal.returns
returns g c =
    let s = g.T.Terms.contents c.args.store.now in
    let w = written_at s c.args.numbers.now in
    let r = recursor_at s c.args.r.now in
    four_parts c.args.out.now.items c.add_head.new.out.items c.add_counted.new.out.items c.add_shape.new.out.items c.add_names.new.out.items
    (rec_head r w) (counted (name_numbers w (map (name_at s) c.args.family.now))) (shape_fields c.args.first r.recursor w) (fields (name_numbers w (map (name_at s) c.args.r.now.levels.items)))
    c.in_ok-add_head.ensures c.in_ok-add_counted.ensures c.in_ok-add_shape.ensures (rw c.deref.ensures.value at c.in_ok-add_names.ensures)
