use Rattle.std.proofs.Common.{rules, ℕ, subst}
use Rattle.lk_callers.specs.Answered.{IsNew}
use Rattle.lk_callers.proofs.New.{new_more}
use Rattle.lk_callers.proofs.passes.split_passes.Goals as goal

pub returns-clause-each : goal.returns-clause-each
returns-clause-each g c = new_more c.in_ok-passes.passes.items c.push.new.self.items c.idle.result c.in_ok-passes.ensures.each (subst (λ (n : ℕ). IsNew n c.idle.result) (search rules) c.idle.ensures) c.in_ok-push.ensures.items
