use Rattle.lk_engine.proofs.Frames.{entries_steady}
use Rattle.lk_engine.proofs.Kept.{entries_more}
use Rattle.lk_engine.proofs.sharing.fetch_at.Goals as goal

pub returns-in_err-kept-clause-fetches : goal.returns-in_err-kept-clause-fetches
returns-in_err-kept-clause-fetches c =
    let stays = c.look_up.ensures.stays in
    record {
      stays = stays;
      meter = c.look_up.ensures.meter;
      entries_true = entries_steady stays.keeps _ _ _ c.known.ensures.entries;
    }

pub returns-clause-fetches : goal.returns-clause-fetches
returns-clause-fetches c =
    let stays = c.look_up.ensures.stays in
    record {
      stays = stays;
      meter = c.look_up.ensures.meter;
      entries_true = entries_more _ _ _ _ _ _ _
          (entries_steady stays.keeps _ _ _ c.known.ensures.entries)
          (record {
            private = c.keep-kept.ensures.holds;
            lasting = c.keep-kept.ensures.lasting;
            staying = c.keep-kept.ensures.staying;
          })
          c.in_ok-kept.ensures.found;
    }
