use Rattle.lk_closure.proofs.Least.{same_closure, verdict_unchanged, axioms_unchanged}
use Rattle.lk_closure.proofs.unchanged_units_keep_verdict.Goals as goal

pub returns : goal.returns
returns c = record { closure = same_closure; verdict = verdict_unchanged; axioms = axioms_unchanged }
