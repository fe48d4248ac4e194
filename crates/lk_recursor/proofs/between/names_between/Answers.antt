use Rattle.lk_recursor.proofs.between.names_between.Goals as goal

pub returns-clause-stays : goal.returns-clause-stays
returns-clause-stays g c = (g.met.A.Asks.decided c.names_of.new.terms c.args.asks.now c.names_of.ensures.rest).0

pub returns-clause-left : goal.returns-clause-left
returns-clause-left g c = (g.met.A.Asks.decided c.names_of.new.terms c.args.asks.now c.names_of.ensures.rest).1
