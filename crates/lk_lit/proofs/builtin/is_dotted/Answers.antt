use Rattle.std.proofs.Common.{[], ◌∷◌, ◌∙◌}
use Rattle.lk_tree.specs.Tree.{text}
use Rattle.lk_lit.proofs.Naming.{by_parent, no_parent}
use Rattle.lk_lit.proofs.builtin.is_dotted.Goals as goal

pub returns-in-Some : goal.returns-in-Some
returns-in-Some g c =
    c.is_word.ensures
    ∙ by_parent _ _ (text c.args.first.now ∷ []) c.args.second.now c.in-Some.ensures.1

pub returns-in-None : goal.returns-in-None
returns-in-None g c = no_parent _ (text c.args.first.now ∷ []) c.args.second.now c.in-None.ensures
