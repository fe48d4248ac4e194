use Rattle.std.proofs.Common.{◌+◌, ◌<◌, length, sym, ap, subst, ◌∙◌, arith}
use Rattle.std.proofs.lemmas.List.{length-map}
use Rattle.lk_store.specs.Store.{contents_of}
use Rattle.lk_env.specs.Units.{unit_at, library_of}
use Rattle.lk_axioms.specs.Gathered.{IsRight, AreKept}
use Rattle.lk_axioms.proofs.Kept.{kept_still, kept_done}
use Rattle.lk_axioms.proofs.units.gather_units.Goals.{in-Some+in_ok-push-in-Some, in-None+in_ok-push_unit-in-None}
use Rattle.lk_axioms.proofs.units.gather_units.Goals as goal

pub loop-i-preserved : goal.loop-i-preserved
loop-i-preserved c =
    let d = contents_of c.args.library.now.tables in
    let us = library_of c.args.library.now in
    let inside : c.loop-i.i < length us = omega (arith, c.loop-i-test.true, ap length c.units-units.ensures.value, length-map c.args.library.now.units (unit_at d)) in
    elim c.match-kept_set.branch [
      | in-Some+in_ok-push-in-Some w ↦ record {
        right = kept_done d us c.loop-i.i c.loop-i.gathering c.match-kept_set.gathering c.args.kept.now c.args.stale.now w.in-Some.set inside c.loop-i.invariant.right c.loop-i.invariant.still
            (sym c.kept_set.ensures ∙ w.in-Some.is) (ap (λ g. g.sets) w.gathering-is) (ap (λ g. g.cells.items) w.gathering-is) (ap (λ g. g.units.items) w.gathering-is ∙ w.in_ok-push-in-Some.ensures.items);
        still = subst (λ sets. AreKept us sets c.args.kept.now c.args.stale.now) (sym (ap (λ g. g.sets) w.gathering-is)) c.loop-i.invariant.still;
      }
      | in-None+in_ok-push_unit-in-None w ↦ record {
        right = subst (IsRight d us (c.loop-i.i + 1)) (sym w.gathering-is) w.in_ok-push_unit-in-None.ensures.right;
        still = subst (λ g. AreKept us g.sets c.args.kept.now c.args.stale.now) (sym w.gathering-is)
            (kept_still us c.loop-i.gathering.sets w.push_unit.new.gathering.sets c.args.kept.now c.args.stale.now c.loop-i.invariant.still w.in_ok-push_unit-in-None.ensures.keeps);
      }
    ]
