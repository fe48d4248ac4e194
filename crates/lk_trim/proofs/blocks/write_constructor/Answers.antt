use Rattle.std.proofs.Common.{refl}
use Rattle.lk_env.specs.Units.{constructor_at}
use Rattle.lk_trim.specs.Units.{ctor_line}
use Rattle.lk_trim.proofs.Chains.{then_writes, line_writes}
use Rattle.lk_trim.proofs.blocks.write_constructor.Goals as goal

pub returns : goal.returns
returns g c =
    let s = g.T.Terms.contents c.args.store.now in
    let levels = rw c.deref.ensures.value at c.in_ok-write_names.ensures in
    then_writes (then_writes (then_writes (then_writes c.in_ok-write_name.ensures c.in_ok-write_tree.ensures) c.in_ok-write_name-2.ensures) levels)
    (line_writes c.in_ok-write_names.ensures.numbers (ctor_line (constructor_at s c.args.k.now)) c.add_constructor.new.out.items c.in_ok-add_constructor.ensures c.in_ok-push.ensures.items refl)
