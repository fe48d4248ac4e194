use Rattle.lk_derive_eta.proofs.texts.text_row.Goals as goal

pub converted-requires-clause-rule_in : goal.converted-requires-clause-rule_in
converted-requires-clause-rule_in g c = c.text_rule-rule.ensures.known (g.L.Terms.contents c.args.looks.now)
