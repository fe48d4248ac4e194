use Rattle.lk_desk.proofs.Runs.{every_run}
use Rattle.lk_desk.proofs.laws.every_run_keeps.Goals as goal

pub returns : goal.returns
returns c = every_run
