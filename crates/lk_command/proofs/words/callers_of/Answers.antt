use Rattle.std.proofs.Common.{codes}
use Rattle.clap.specs.Words.{found_of, rows_of}
use Rattle.clap.proofs.WalkLemmas.{first_value-rows}
use Rattle.lk_command.proofs.WordLaws.{at_none}
use Rattle.lk_command.specs.Words.{HasCallers}
use Rattle.lk_command.specs.declared.words.Callers.{Callers}
use Rattle.lk_command.proofs.words.callers_of.Goals as goal

pub returns-in_err-workers-clause-none : goal.returns-in_err-workers-clause-none
returns-in_err-workers-clause-none c = at_none _ ((x : Callers) → HasCallers (rows_of (found_of c.args.matches.now)) x → ⊥) (λ x h. c.in_err-workers.ensures.none x.workers (rw (first_value-rows (found_of c.args.matches.now) (codes "workers")) h.workers))

pub returns-in_err-steps-clause-none : goal.returns-in_err-steps-clause-none
returns-in_err-steps-clause-none c = at_none _ ((x : Callers) → HasCallers (rows_of (found_of c.args.matches.now)) x → ⊥) (λ x h. c.in_err-steps.ensures.none x.steps h.steps)

pub returns-clause-some : goal.returns-clause-some
returns-clause-some c = record {
  workers = rw (← first_value-rows (found_of c.args.matches.now) (codes "workers")) c.in_ok-workers.ensures.some;
  steps = c.in_ok-steps.ensures.some;
}
