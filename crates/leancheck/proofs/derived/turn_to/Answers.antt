use Rattle.std.proofs.Common.{sym, subst}
use Rattle.lk_rulebook.specs.WellStated.{WellStated}
use Rattle.lk_env.specs.Units.{library_of}
use Rattle.lk_sound.proofs.Statedness.{all_well_stated}
use Rattle.leancheck.proofs.derived.turn_to.Goals as goal

pub invariant_of-deriver : goal.invariant_of-deriver
invariant_of-deriver g c =
    let l = g.D.Tracer.library (g.D.Looks.sight (g.D.Terms.rest c.deriver.inside.derives)).basis.beside in
    subst WellStated (sym c.turn_to.ensures.place) (all_well_stated (library_of l) c.args.unit)

pub returns-clause-place : goal.returns-clause-place
returns-clause-place g c = rw (← c.deriver.view_is) c.turn_to.ensures.place
