use Rattle.std.proofs.Common.{codes}
use Rattle.clap.specs.Words.{found_of, rows_of}
use Rattle.clap.proofs.WalkLemmas.{first_value-rows}
use Rattle.lk_command.proofs.WordLaws.{at_none}
use Rattle.lk_command.specs.Words.{HasSample}
use Rattle.lk_command.specs.declared.words.Sample.{Sample}
use Rattle.lk_command.proofs.words.sample_of.Goals as goal

pub returns-in_err-units-clause-none : goal.returns-in_err-units-clause-none
returns-in_err-units-clause-none c = at_none _ ((x : Sample) → HasSample (rows_of (found_of c.args.matches.now)) x → ⊥) (λ x h. c.in_err-units.ensures.none x.units (rw (first_value-rows (found_of c.args.matches.now) (codes "units")) h.units))

pub returns-in_err-seed-clause-none : goal.returns-in_err-seed-clause-none
returns-in_err-seed-clause-none c = at_none _ ((x : Sample) → HasSample (rows_of (found_of c.args.matches.now)) x → ⊥) (λ x h. c.in_err-seed.ensures.none x.seed (rw (first_value-rows (found_of c.args.matches.now) (codes "seed")) h.seed))

pub returns-clause-some : goal.returns-clause-some
returns-clause-some c = record {
  units = rw (← first_value-rows (found_of c.args.matches.now) (codes "units")) c.in_ok-units.ensures.some;
  seed = rw (← first_value-rows (found_of c.args.matches.now) (codes "seed")) c.in_ok-seed.ensures.some;
}
