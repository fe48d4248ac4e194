use Rattle.std.proofs.Common.{◌≡◌, [], refl, sym, ap, subst, ◌∙◌}
use Rattle.std.specs.Prelude.{IfOk}
use Rattle.std.proofs.lemmas.List.Elements.{All-nil}
use Rattle.lk_rulebook.specs.Units.{place_of}
use Rattle.lk_written.specs.Section.{unit_at_fault}
use Rattle.lk_store.specs.Contents.{Extends}
use Rattle.lk_store.specs.Store.{contents_of}
use Rattle.lk_store.specs.Layers.{layers_contents}
use Rattle.lk_store.proofs.Made.{Extends-self}
use Rattle.lk_env.specs.Units.{unit_at, library_of}
use Rattle.lk_ask.specs.declared.instances.Instance.{Instance}
use Rattle.lk_ask.specs.Instances.{IsInstance}
use Rattle.lk_trace.specs.Meaning.{section_of}
use Rattle.lk_replay.proofs.Places.{place_is}
use Rattle.lk_replay.proofs.unit.fault_over.Goals as goal

pub new-requires : goal.new-requires
new-requires c =
    let library = contents_of c.args.library.now.tables in
    subst (λ k. Extends library k)
    (sym (c.new-terms.ensures.contents ∙ ap (λ t. contents_of t) c.base.ensures))
    (Extends-self library)

pub invariant_of-lookout : goal.invariant_of-lookout
invariant_of-lookout c =
    let now = layers_contents c.new-terms.result in
    record {
      over = subst (λ t. Extends (contents_of t) now) (sym c.new.ensures.tables) (Extends-self now);
      made = rw c.new-3.ensures (All-nil (λ (i : Instance). IsInstance now i.params.items i.tree i.made));
    }

pub fault_of-requires-clause-place : goal.fault_of-requires-clause-place
fault_of-requires-clause-place c =
    place_is c.new.result _ c.args.number c.new.ensures.auxiliary refl
    ∙ ap (λ l. place_of (library_of l) c.args.number []) c.new.ensures.library

pub returns : goal.returns
returns c =
    let library = contents_of c.args.library.now.tables in
    subst (λ k. IfOk c.fault_of.result (λ f. f ≡ unit_at_fault (library_of c.args.library.now) c.args.number
    (unit_at library c.args.unit.now) (section_of k c.args.section.now)))
    (c.new-terms.ensures.contents ∙ ap (λ t. contents_of t) c.base.ensures)
    c.fault_of.ensures
