use Rattle.std.proofs.Common.{◌∙◌}
use Rattle.lk_trim.proofs.Numbered.{tree_numbered}
use Rattle.lk_trim.proofs.trees.tree_number.Goals as goal

pub returns : goal.returns
returns g c = c.place.ensures ∙ tree_numbered (g.T.Terms.contents c.args.store.now) c.args.numbers.now c.requires.numbers c.args.tree c.requires.tree_in
