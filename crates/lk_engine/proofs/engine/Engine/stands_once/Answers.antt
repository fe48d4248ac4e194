use Rattle.std.proofs.Common.{subst}
use Rattle.lk_tree.specs.Tree.{zero_level, wide}
use Rattle.lk_store.specs.Layers.{layers_contents, Layers}
use Rattle.lk_store.specs.Values.{AreApart}
use Rattle.lk_ask.specs.Outlook.{Outlook}
use Rattle.lk_engine.proofs.engine.Engine.stands_once.Goals as goal

pub returns-clause-levels : goal.returns-clause-levels
returns-clause-levels g c =
    subst (λ (s : Outlook Layers). AreApart zero_level (layers_contents s.terms).levels)
    c.self.view_is c.once_in.ensures.levels

pub returns-clause-trees : goal.returns-clause-trees
returns-clause-trees g c =
    subst (λ (s : Outlook Layers). AreApart wide (layers_contents s.terms).trees)
    c.self.view_is c.once_in.ensures.trees
