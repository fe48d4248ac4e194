use Rattle.std.proofs.Common.{refl}
use Rattle.lk_env.specs.Units.{rule_at}
use Rattle.lk_trim.specs.Units.{rule_line}
use Rattle.lk_trim.proofs.Chains.{then_writes, line_writes, counts_rule}
use Rattle.lk_trim.proofs.recursors.write_rule.Goals as goal

pub returns : goal.returns
returns g c =
    let s = g.T.Terms.contents c.args.store.now in
    let k = c.in_ok-write_tree.ensures.numbers in
    then_writes (then_writes (then_writes c.in_ok-write_name.ensures c.in_ok-write_tree.ensures)
    (line_writes {new = record { out = c.push.new.self; numbers = c.write_tree.new.writer.numbers }} k (rule_line (rule_at s c.args.rule.now)) c.add_rule.new.out.items c.in_ok-add_rule.ensures c.in_ok-push.ensures.items refl))
    (counts_rule k refl c.in_ok-count_rule.ensures.names c.in_ok-count_rule.ensures.levels c.in_ok-count_rule.ensures.trees c.in_ok-count_rule.ensures.rules)
