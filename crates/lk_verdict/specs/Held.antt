-- What verdicts that are held stand for.
use Rattle.lk_verdict.specs.Told.{Verdict, accepted, rejected, out_of_steps, out_of_memory}
use Rattle.lk_verdict.specs.declared.verdict.Verdict.{Verdict as HeldVerdict}
use Rattle.lk_verdict.specs.declared.verdict.Verdict.TheVariants.{Yes, No, Steps, Memory}

abbrev pub verdict : HeldVerdict → Verdict
verdict Yes = accepted
verdict (No r) = rejected r
verdict Steps = out_of_steps
verdict Memory = out_of_memory
