use Rattle.std.proofs.Common.{length, sym, ap, subst, ◌∙◌}
use Rattle.std.proofs.lemmas.List.Elements.{All-nil}
use Rattle.lk_store.specs.Contents.{Extends}
use Rattle.lk_store.specs.Store.{over, contents_of}
use Rattle.lk_store.proofs.Made.{Extends-self}
use Rattle.lk_store.specs.Layers.{layers_contents}
use Rattle.lk_ask.specs.declared.instances.Instance.{Instance}
use Rattle.lk_ask.specs.Instances.{IsInstance}
use Rattle.lk_engine.proofs.Standing.{new_stands, shares_new}
use Rattle.lk_engine.proofs.engine.Engine.new.Goals as goal

pub new-requires : goal.new-requires
new-requires g c =
    let library = contents_of c.args.library.now.tables in
    subst (λ k. Extends library k)
    (sym (c.new-terms.ensures.contents ∙ ap (λ t. contents_of t) c.base-2.ensures))
    (Extends-self library)

pub invariant_of-lookout : goal.invariant_of-lookout
invariant_of-lookout g c =
    let now = layers_contents c.new-terms.result in
    record {
      over = subst (λ t. Extends (contents_of t) now) (sym c.new.ensures.tables) (Extends-self now);
      made = rw c.new-3.ensures (All-nil (λ (i : Instance). IsInstance now i.params.items i.tree i.made));
    }

pub invariant_of-result : goal.invariant_of-result
invariant_of-result g c =
    let library = ap (λ l. l.tables) (sym c.new.ensures.library) in
    let library_has = contents_of c.new.result.library.tables in
    let same = c.new-terms.ensures.contents ∙ ap (λ t. contents_of t) (c.base-2.ensures ∙ library) in
    new_stands _ _ _ _
    (rw c.begin.ensures.share (shares_new _ _ _ c.new.ensures.library c.requires))
    (ap (λ l. l.base) c.new-terms.ensures.value ∙ c.base-2.ensures ∙ library)
    c.begin.ensures.private c.begin.ensures.lasting c.begin.ensures.staying
    (c.len.ensures ∙ ap (λ t. length (contents_of t).trees) (c.base.ensures ∙ library))
    (subst (λ k. Extends library_has k) (sym same) (Extends-self library_has))
