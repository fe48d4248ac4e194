use Rattle.lk_block.proofs.elimination.build_level.Goals as goal

pub returns-clause-stays : goal.returns-clause-stays
returns-clause-stays g c = (g.met.A.Asks.decided c.make_level.new.self c.args.asks.now c.make_level.ensures.rest).0

pub returns-clause-left : goal.returns-clause-left
returns-clause-left g c = (g.met.A.Asks.decided c.make_level.new.self c.args.asks.now c.make_level.ensures.rest).1
