use Rattle.lk_recursor.proofs.between.front_between.Goals as goal

pub returns-clause-stays : goal.returns-clause-stays
returns-clause-stays g c = (g.met.A.Asks.decided c.front_of.new.terms c.args.asks.now c.front_of.ensures.rest).0

pub returns-clause-left : goal.returns-clause-left
returns-clause-left g c = (g.met.A.Asks.decided c.front_of.new.terms c.args.asks.now c.front_of.ensures.rest).1
