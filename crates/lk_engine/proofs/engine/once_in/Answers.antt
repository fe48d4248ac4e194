use Rattle.std.proofs.Common.{subst}
use Rattle.lk_tree.specs.Tree.{zero_level, wide}
use Rattle.lk_store.specs.Layers.{layers_contents, Layers}
use Rattle.lk_store.specs.Values.{AreApart}
use Rattle.lk_ask.specs.Outlook.{Outlook}
use Rattle.lk_engine.proofs.engine.once_in.Goals as goal

pub returns-clause-levels : goal.returns-clause-levels
returns-clause-levels c =
    subst (λ (s : Outlook Layers). AreApart zero_level (layers_contents s.terms).levels)
    c.lookout.view_is c.stands_once.ensures.levels

pub returns-clause-trees : goal.returns-clause-trees
returns-clause-trees c =
    subst (λ (s : Outlook Layers). AreApart wide (layers_contents s.terms).trees)
    c.lookout.view_is c.stands_once.ensures.trees
