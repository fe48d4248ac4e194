use Rattle.lk_reach.proofs.Reached.{mentioned_below, reached_below}
use Rattle.lk_reach.proofs.reached_units_are_earlier.Goals as goal

pub returns : goal.returns
returns c = record { mentioned = λ us n m s. mentioned_below us n m s; reached = λ us n k r. reached_below us n k r }
