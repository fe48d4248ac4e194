use Rattle.std.proofs.Common.{◌≡◌, length, ap, subst, ◌∙◌}
use Rattle.lk_store.specs.Contents.{Contents, name_at}
use Rattle.lk_store.specs.Store.{contents_of}
use Rattle.lk_store.specs.Layers.{layers_contents}
use Rattle.lk_env.specs.Units.{AreUnitsIn}
use Rattle.lk_env.specs.Scopes.{AnswersAmong}
use Rattle.lk_env.proofs.scope.Scope.auxiliary_named.Goals as goal

pub returns-clause-answer : goal.returns-clause-answer
returns-clause-answer g c =
    let inside = c.self.inside in
    let d : Contents = contents_of c.args.self.now.tables in
    let tables : layers_contents inside.given.value ≡ d = ap (λ s. contents_of s.tables) c.self.view_is in
    let items : c.deref.result.now ≡ c.args.self.now.auxiliary = c.deref.ensures.value ∙ ap (λ s. s.auxiliary) c.self.view_is in
    let known : AreUnitsIn d c.deref.result.now = rw c.deref.ensures.value (subst (λ k. AreUnitsIn k inside.auxiliary.items) tables c.self.invariant.2) in
    let count : length c.units.result.now ≡ length c.args.self.now.library.units = ap length c.units.ensures.value ∙ ap (λ s. length s.library.units) c.self.view_is in
    let x = name_at (g.T.Terms.contents c.args.terms.now) c.args.name in
    subst (λ us. AnswersAmong d (length c.args.self.now.library.units) us x c.named_among.result) items
    (subst (λ n. AnswersAmong d n c.deref.result.now x c.named_among.result) count
    (c.named_among.ensures.answer d c.requires.over known))
