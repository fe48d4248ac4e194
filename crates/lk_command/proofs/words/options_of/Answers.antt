use Rattle.std.proofs.Common.{codes}
use Rattle.clap.specs.Words.{found_of, rows_of}
use Rattle.clap.proofs.WalkLemmas.{first_value-rows}
use Rattle.lk_command.proofs.WordLaws.{at_none}
use Rattle.lk_command.specs.Words.{HasOptions}
use Rattle.lk_command.specs.declared.words.Options.{Options}
use Rattle.lk_command.proofs.words.options_of.Goals as goal

pub returns-in_err-callers-clause-none : goal.returns-in_err-callers-clause-none
returns-in_err-callers-clause-none c = at_none _ ((x : Options) → HasOptions (rows_of (found_of c.args.matches.now)) x → ⊥) (λ x h. c.in_err-callers.ensures.none (record { workers = x.workers; steps = x.steps }) (record { workers = h.workers; steps = h.steps }))

pub returns-in_err-memo-clause-none : goal.returns-in_err-memo-clause-none
returns-in_err-memo-clause-none c = at_none _ ((x : Options) → HasOptions (rows_of (found_of c.args.matches.now)) x → ⊥) (λ x h. c.in_err-memo.ensures.none x.memo (rw (first_value-rows (found_of c.args.matches.now) (codes "memo")) h.memo))

pub returns-clause-some : goal.returns-clause-some
returns-clause-some c = record {
  workers = c.in_ok-callers.ensures.some.workers;
  steps = c.in_ok-callers.ensures.some.steps;
  memo = rw (← first_value-rows (found_of c.args.matches.now) (codes "memo")) c.in_ok-memo.ensures.some;
  allow = rw (← first_value-rows (found_of c.args.matches.now) (codes "allow")) c.get_str.ensures;
}
