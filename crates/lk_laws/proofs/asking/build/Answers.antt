use Rattle.lk_laws.proofs.asking.build.Goals as goal

pub returns : goal.returns
returns g c =
    let decided = g.met.A.Asks.decided c.make_side.new.terms c.args.asks.now
    c.make_side.ensures.stays in
    record {
      keeps = c.make_side.ensures.keeps;
      stays = decided.0;
      left = decided.1;
      ok = c.make_side.ensures.ok;
    }
