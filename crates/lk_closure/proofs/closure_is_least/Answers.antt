use Rattle.lk_closure.proofs.Least.{least_closed, within_closed, closure_earlier}
use Rattle.lk_closure.proofs.closure_is_least.Goals as goal

pub returns : goal.returns
returns c = record { closed = least_closed; least = within_closed; earlier = closure_earlier }
