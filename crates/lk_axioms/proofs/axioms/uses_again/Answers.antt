use Rattle.std.proofs.Common.{length, sym, ap, subst, ◌∙◌}
use Rattle.std.proofs.lemmas.List.{length-map}
use Rattle.lk_store.specs.Store.{contents_of}
use Rattle.lk_env.specs.Units.{unit_at, library_of}
use Rattle.lk_axioms.specs.Lists.{KeepsAxioms}
use Rattle.lk_axioms.proofs.Course.{all_done}
use Rattle.lk_axioms.proofs.Kept.{kept_sets}
use Rattle.lk_axioms.proofs.axioms.uses_again.Goals as goal

pub gather_units-requires-clause-right : goal.gather_units-requires-clause-right
gather_units-requires-clause-right c =
    c.in_ok-gathering.ensures.right (contents_of c.args.library.now.tables) (library_of c.args.library.now)
    (sym (c.len.ensures ∙ ap (λ t. length (contents_of t).trees) c.base.ensures))

pub gather_units-requires-clause-still : goal.gather_units-requires-clause-still
gather_units-requires-clause-still c =
    rw (c.in_ok-gathering.ensures.sets, c.deref.ensures.value) (
    kept_sets (library_of c.args.library.now) c.kept.inside.sets c.kept.inside.units.items c.args.stale.now c.kept.invariant.0
    (subst (λ sets. KeepsAxioms (library_of c.args.library.now) sets c.args.stale.now) (sym c.kept.view_is) c.requires.kept))

pub returns : goal.returns
returns c =
    c.finish.ensures
    ∙ all_done (contents_of c.args.library.now.tables) (library_of c.args.library.now) (length c.args.library.now.units) c.gather_units.new.gathering
    (sym (length-map c.args.library.now.units (unit_at (contents_of c.args.library.now.tables)))) c.in_ok-gather_units.ensures
