use Rattle.std.proofs.Common.{refl}
use Rattle.std.proofs.lemmas.List.Elements.{All-rest}
use Rattle.lk_env.specs.Units.{rule_at, IsRuleIn}
use Rattle.lk_trim.specs.Units.{write_rule, write_rules}
use Rattle.lk_trim.specs.Stored.{file_at}
use Rattle.lk_trim.proofs.Chains.{each_more}
use Rattle.lk_trim.proofs.recursors.write_rules.Goals as goal

pub loop-rule-preserved : goal.loop-rule-preserved
loop-rule-preserved g c =
    let s = g.T.Terms.contents c.args.store.now in
    record {
      numbers = c.in_ok-write_rule.ensures.numbers;
      known = All-rest (IsRuleIn s) c.in-Some.rule.now c.in-Some.more.now c.loop-rule.rest.now c.in-Some.ensures.cases.0 c.loop-rule.invariant.known;
      leads = each_more (rule_at s) write_rule write_rules (λ y ys f. refl) c.in-Some.rule.now c.loop-rule.rest.now c.in-Some.more.now (file_at s c.loop-rule.writer) (file_at s c.write_rule.new.writer) _
          c.in-Some.ensures.cases.0 c.in_ok-write_rule.ensures.file c.loop-rule.invariant.leads;
    }
