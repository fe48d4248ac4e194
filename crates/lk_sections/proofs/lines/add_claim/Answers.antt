use Rattle.lk_sections.proofs.lines.add_claim.Goals as goal

pub add_extra-requires-clause-extra_in : goal.add_extra-requires-clause-extra_in
add_extra-requires-clause-extra_in g c = c.extra_of.ensures.known (g.T.Terms.contents c.args.store.now) c.requires.line_in.rule_in
