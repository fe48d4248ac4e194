use Rattle.std.proofs.Common.{[], ◌∷◌}
use Rattle.lk_tree.specs.Tree.{text}
use Rattle.lk_needs.proofs.Spelled.{by_front, no_front}
use Rattle.lk_needs.proofs.builtins.is_dotted.Goals as goal

pub returns-in-Some : goal.returns-in-Some
returns-in-Some c = by_front _ _ (text c.args.first.now ∷ []) c.args.second.now c.is_word.result c.in-Some.ensures.1 c.is_word.ensures

pub returns-in-None : goal.returns-in-None
returns-in-None c = no_front _ (text c.args.first.now ∷ []) c.args.second.now c.in-None.ensures
