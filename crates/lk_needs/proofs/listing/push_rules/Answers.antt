use Rattle.lk_needs.specs.Things.{rule_things}
use Rattle.lk_needs.proofs.Lists.{one_list_at}
use Rattle.lk_needs.proofs.listing.push_rules.Goals as goal

pub loop-rule-preserved : goal.loop-rule-preserved
loop-rule-preserved c = one_list_at rule_things c.args.things.now.items c.loop-rule.things.items c.push_rule.new.things.items c.args.rules.now c.loop-rule.rule-index _ c.loop-rule-test.true c.loop-rule.invariant c.in_ok-push_rule.ensures
