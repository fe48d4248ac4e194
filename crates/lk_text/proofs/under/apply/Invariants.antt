use Rattle.lk_env.specs.Units.{library_of}
use Rattle.lk_text.proofs.Marked.{IsPutUnder}
use Rattle.lk_text.proofs.under.apply.Given as goal

abbrev pub invariant-loop-unit : goal.invariant-loop-unit
invariant-loop-unit l = IsPutUnder l.policy (library_of l.library) l.fn.verdicts l.verdicts l.unit
