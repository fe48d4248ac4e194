use Rattle.lk_laws.specs.Needs.{needed_steps}
use Rattle.lk_laws.proofs.Runs.{met_comes}
use Rattle.lk_laws.proofs.asking.need.Goals as goal

pub returns-clause-outcome : goal.returns-clause-outcome
returns-clause-outcome g c =
    met_comes (g.A.Asks.standing c.args.asks.now) (needed_steps c.args.needed)
    (g.A.Asks.left c.args.asks.now) (g.A.Asks.left c.need.new.self) c.need.result
    c.need.ensures.left c.need.ensures.outcome
