use Rattle.lk_ask.proofs.building.open.Goals as goal

pub returns : goal.returns
returns g c =
    let decided = g.met.A.Asks.decided c.open_with.new.terms c.args.asks.now c.open_with.ensures.rest in
    record { keeps = c.open_with.ensures.keeps; stays = decided.0; left = decided.1; ok = c.open_with.ensures.ok }
