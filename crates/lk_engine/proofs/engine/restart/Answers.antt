use Rattle.std.proofs.Common.{◌≡◌, sym, subst}
use Rattle.lk_store.specs.Contents.{Extends}
use Rattle.lk_store.specs.Store.{over, contents_of}
use Rattle.lk_store.proofs.Made.{Extends-self}
use Rattle.lk_store.specs.Layers.{layers_contents}
use Rattle.lk_engine.proofs.Lookouts.{tidied}
use Rattle.lk_engine.proofs.engine.restart.Goals as goal

pub new-requires : goal.new-requires
new-requires c =
    let inside = c.lookout.inside in
    let base = subst (λ s. s.terms.base ≡ s.scope.library.tables) (sym c.lookout.view_is) c.requires in
    let now = layers_contents c.tidy.new.terms in
    subst (λ l. Extends (contents_of l.tables) now) (sym c.library-library.ensures.is)
    (tidied inside.scope.library.tables (contents_of inside.scope.tables) inside.terms c.tidy.new.terms
    c.args.stays base c.library-library.ensures.over c.lookout.invariant.over c.tidy.ensures.tidies)

pub invariant_of-lookout : goal.invariant_of-lookout
invariant_of-lookout c =
    let now = layers_contents c.tidy.new.terms in
    record {
      over = subst (λ t. Extends (contents_of t) now) (sym c.new.ensures.tables) (Extends-self now);
      made = c.tidy.ensures.instances c.lookout.invariant.made;
    }
