use Rattle.std.proofs.Common.{subst}
use Rattle.lk_store.specs.declared.tables.Tables.{Tables}
use Rattle.lk_store.specs.Store.{contents_of}
use Rattle.lk_env.specs.Units.{unit_at, library_of}
use Rattle.leancheck.specs.Held.{IsPlain}
use Rattle.leancheck.specs.Rows.{scanned_of}
use Rattle.leancheck.proofs.Judging.{judged_new}
use Rattle.lk_engine.specs.Lookouts.{standing_of, places_at}
use Rattle.leancheck.proofs.checking.judge.Goals as goal

pub returns-in-Ok-true-clause-verdict : goal.returns-in-Ok-true-clause-verdict
returns-in-Ok-true-clause-verdict g c =
    let places = places_at (standing_of c.args.asks.now).basis in
    let left = c.args.asks.now.meter.left in
    judged_new (library_of c.args.library.now) left c.args.number (unit_at (contents_of c.args.library.now.tables) c.args.unit.now) c.in-Ok-true.field-0 places c.judge_new.result c.in-Ok-true.field-0-test c.in-Ok-true.ensures c.requires.places
    (subst (λ (t : Tables). IsPlain (scanned_of places left (unit_at (contents_of t) c.args.unit.now)) c.judge_new.result) c.base.ensures c.judge_new.ensures.verdict)
