use Rattle.std.proofs.Common.{nat_eq, arith}
use Rattle.std.specs.HashMap as hash_map
use Rattle.lk_members.proofs.Placing.{placed_more}
use Rattle.lk_members.proofs.places.put_each.Goals as goal

pub loop-name-preserved : goal.loop-name-preserved
loop-name-preserved c = λ q. placed_more (hash_map.get nat_eq c.args.places.now q) (hash_map.get nat_eq c.loop-name.places q) (hash_map.get nat_eq c.put_first.new.places q) c.args.names.now c.loop-name.name-index q c.args.place
    (omega arith) (c.loop-name.invariant q) (c.in_ok-put_first.ensures q)
