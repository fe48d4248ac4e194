use Rattle.std.proofs.Common.{◌≡◌, ap, subst, ◌∙◌}
use Rattle.std.specs.Prelude.{◌↔◌, IsTrue}
use Rattle.lk_store.specs.Contents.{tree_at}
use Rattle.lk_store.specs.Layers.{layers_contents}
use Rattle.lk_handle.proofs.terms.EngineHandleTerms.same.Goals as goal

pub returns : goal.returns
returns g c = subst (λ t. IsTrue c.same.result
    ↔ (tree_at (layers_contents t) c.args.a ≡ tree_at (layers_contents t) c.args.b))
    (c.terms.ensures ∙ ap (λ s. s.terms) c.self.view_is) c.same.ensures
