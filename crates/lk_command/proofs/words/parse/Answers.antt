use Rattle.std.proofs.Common.{◌∙◌}
use Rattle.clap.specs.Words.{app_of}
use Rattle.clap.specs.declared.error.kind.ErrorKind.TheVariants.{OutOfMemory}
use Rattle.lk_command.specs.Words.{texts_of}
use Rattle.lk_command.proofs.WordLaws.{faultless, faulty, matching}
use Rattle.lk_command.proofs.words.parse.Goals as goal

pub returns-in-Ok-clause-no_fault : goal.returns-in-Ok-clause-no_fault
returns-in-Ok-clause-no_fault c = faultless (app_of c.in_ok-command.field-0) (texts_of c.args.words.now) c.in_ok-command.ensures.app c.in-Ok.ensures.kinds

pub returns-in-Ok-clause-matched : goal.returns-in-Ok-clause-matched
returns-in-Ok-clause-matched c = matching (app_of c.in_ok-command.field-0) (texts_of c.args.words.now) c.in-Ok.matches c.in_ok-command.ensures.app c.in-Ok.ensures.matches

pub returns-clause-usage : goal.returns-clause-usage
returns-clause-usage c = λ e. faulty (app_of c.in_ok-command.field-0) (texts_of c.args.words.now) c.in-Err.error.kind OutOfMemory c.in_ok-command.ensures.app (λ p. c.in_default.not-OutOfMemory (c.kind.ensures ∙ p)) c.in-Err.ensures.kinds
