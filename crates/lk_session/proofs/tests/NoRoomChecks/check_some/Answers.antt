use Rattle.lk_env.specs.Units.{library_of}
use Rattle.lk_session.proofs.Verdicts.{unanswered_checked}
use Rattle.lk_session.proofs.tests.NoRoomChecks.check_some.Goals as goal

pub returns-clause-checked : goal.returns-clause-checked
returns-clause-checked c = unanswered_checked (library_of c.args._library.now) 0 c.args.units.now c.in_ok-verdicts.verdicts.items c.in_ok-verdicts.ensures
