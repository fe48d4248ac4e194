use Rattle.std.proofs.Common.{map, refl}
use Rattle.lk_store.specs.Contents.{name_at}
use Rattle.lk_env.specs.Units.{recursor_at}
use Rattle.lk_trim.specs.Units.{rec_line}
use Rattle.lk_trim.proofs.Chains.{then_writes, line_writes}
use Rattle.lk_trim.proofs.recursors.write_recursor.Goals as goal

pub returns : goal.returns
returns g c =
    let s = g.T.Terms.contents c.args.store.now in
    let rules = rw c.deref.ensures.value at c.in_ok-write_rules.ensures in
    let levels = rw c.deref-2.ensures.value at c.in_ok-write_names-2.ensures in
    let written =
    then_writes (then_writes (then_writes (then_writes (then_writes c.in_ok-write_name.ensures c.in_ok-write_tree.ensures) c.in_ok-write_names.ensures) rules) levels)
    (line_writes {c = s} {new = record { out = c.push.new.self; numbers = c.write_names-2.new.writer.numbers }} c.in_ok-write_names-2.ensures.numbers (rec_line (map (name_at s) c.args.family.now) c.args.writer.now.numbers.rules (recursor_at s c.args.r.now)) c.add_recursor.new.out.items c.in_ok-add_recursor.ensures c.in_ok-push.ensures.items refl) in
    record { numbers = written.numbers; file = written.file }
