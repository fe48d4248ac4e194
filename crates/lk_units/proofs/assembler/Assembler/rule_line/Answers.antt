use Rattle.lk_units.proofs.Putting.{rule_follows}
use Rattle.lk_units.proofs.assembler.Assembler.rule_line.Goals as goal

pub returns-clause-follows : goal.returns-clause-follows
returns-clause-follows c store s k h =
    rule_follows c.push_rule-place.new.self c.put_new.new.self store s c.args.own c.push_rule-place.result _ c.put_new.result (c.push_rule-place.ensures.holds store s k h)
    (c.push_rule-place.ensures.made store _ (c.rule-made.ensures.made store s h)) c.put_new.ensures
