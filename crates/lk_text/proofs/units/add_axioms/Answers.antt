use Rattle.lk_env.specs.Units.{library_of}
use Rattle.lk_text.proofs.Shown.{axioms_more}
use Rattle.lk_text.proofs.units.add_axioms.Goals as goal

pub loop-number-preserved : goal.loop-number-preserved
loop-number-preserved c = axioms_more (library_of c.args.library.now) _ _ _ _ c.loop-number.rest.now c.in-Some.more.now c.in-Some.ensures.cases.0 c.in_ok-add_axiom_at.ensures c.loop-number.invariant
