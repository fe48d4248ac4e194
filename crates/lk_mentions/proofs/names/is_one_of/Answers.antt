use Rattle.std.proofs.Common.{◌∙◌}
use Rattle.lk_mentions.proofs.Numbers.{one_of_known}
use Rattle.lk_mentions.proofs.names.is_one_of.Goals as goal

pub returns : goal.returns
returns g c = c.has.ensures ∙ one_of_known (g.T.Terms.contents c.args.terms.now) c.args.names.now c.args.name c.count_names-names.ensures.apart c.requires.names_in c.requires.name_in
