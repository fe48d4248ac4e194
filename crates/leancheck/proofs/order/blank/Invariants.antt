use Rattle.std.proofs.Common.{◌≡◌, All, vec_len}
use Rattle.lk_verdict.specs.declared.verdict.Verdict.TheVariants.{Memory}
use Rattle.leancheck.proofs.order.blank.Given as goal

abbrev pub invariant-loop : goal.invariant-loop
invariant-loop l = (vec_len l.verdicts ≡ l.counter) × All (λ x. x ≡ Memory) l.verdicts.items
