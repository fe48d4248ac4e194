use Rattle.std.proofs.Common.{codes}
use Rattle.clap.specs.Words.{found_of, rows_of}
use Rattle.clap.proofs.WalkLemmas.{first_value-rows}
use Rattle.lk_command.proofs.WordLaws.{named, unnamed}
use Rattle.lk_command.proofs.words.name_of.Goals as goal

pub returns-clause-some : goal.returns-clause-some
returns-clause-some c = named (λ n. n.now) (rows_of (found_of c.args.matches.now)) c.get_str.result (rw (← first_value-rows (found_of c.args.matches.now) (codes "name")) c.get_str.ensures)

pub returns-clause-none : goal.returns-clause-none
returns-clause-none c = unnamed (λ n. n.now) (rows_of (found_of c.args.matches.now)) c.get_str.result (rw (← first_value-rows (found_of c.args.matches.now) (codes "name")) c.get_str.ensures)
