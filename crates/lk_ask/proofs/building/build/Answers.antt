use Rattle.lk_ask.proofs.building.build.Goals as goal

pub returns : goal.returns
returns g c =
    let decided = g.met.A.Asks.decided c.make.new.self c.args.asks.now c.make.ensures.rest in
    record { keeps = c.make.ensures.keeps; stays = decided.0; left = decided.1; ok = c.make.ensures.ok }
