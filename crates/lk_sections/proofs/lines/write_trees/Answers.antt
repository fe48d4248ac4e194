use Rattle.lk_sections.proofs.lines.write_trees.Goals as goal

pub write_extra-requires-clause-extra_in : goal.write_extra-requires-clause-extra_in
write_extra-requires-clause-extra_in g c = c.extra_of.ensures.known (g.T.Terms.contents c.args.store.now) c.requires.line_in.rule_in
