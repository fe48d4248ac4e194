use Rattle.std.proofs.Common.{ap, subst, ◌∙◌}
use Rattle.lk_tree.specs.Tree.{zero_level, wide}
use Rattle.lk_store.specs.Layers.{layers_contents}
use Rattle.lk_store.specs.Values.{AreApart}
use Rattle.lk_handle.proofs.handle.EngineHandle.stands_once.Goals as goal

pub returns-clause-levels : goal.returns-clause-levels
returns-clause-levels g c = subst (λ t. AreApart zero_level (layers_contents t).levels)
    (c.terms.ensures ∙ ap (λ s. s.terms) c.self.view_is) c.stands_once.ensures.levels

pub returns-clause-trees : goal.returns-clause-trees
returns-clause-trees g c = subst (λ t. AreApart wide (layers_contents t).trees)
    (c.terms.ensures ∙ ap (λ s. s.terms) c.self.view_is) c.stands_once.ensures.trees
