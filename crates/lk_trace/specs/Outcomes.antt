-- What comes of the section of a unit, as the definitions have it.
use Rattle.lk_written.specs.Outcomes as written
use Rattle.lk_trace.specs.declared.outcome.Outcome.{Outcome}
use Rattle.lk_trace.specs.declared.outcome.Outcome.TheVariants.{Ok, Bad, None, Block}

abbrev pub outcome_at : Outcome → written.Outcome
outcome_at Ok = written.holds
outcome_at (Bad l) = written.at_fault l
outcome_at None = written.unwritten
outcome_at Block = written.block
