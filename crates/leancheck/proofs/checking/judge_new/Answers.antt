use Rattle.lk_store.specs.Store.{contents_of}
use Rattle.lk_store.specs.Layers.{layers_contents}
use Rattle.lk_engine.specs.Lookouts.{standing_of, places_at}
use Rattle.leancheck.proofs.Judging.{unit_on, scanned_on}
use Rattle.leancheck.proofs.checking.judge_new.Goals as goal

pub judge_scanned-requires-clause-known : goal.judge_scanned-requires-clause-known
judge_scanned-requires-clause-known g c = unit_on (contents_of c.args.base.now)
    (layers_contents c.args.asks.now.terms) c.requires.over c.args.unit.now
    c.requires.known

pub returns-in-Ok-clause-verdict : goal.returns-in-Ok-clause-verdict
returns-in-Ok-clause-verdict g c =
    let base = contents_of c.args.base.now in
    let places = places_at (standing_of c.args.asks.now).basis in
    scanned_on base (layers_contents c.args.asks.now.terms) c.requires.over places
    (c.args.asks.now.meter.left) c.args.unit.now c.judge_scanned.result c.requires.known
    (rw c.in-Ok.is at c.scan.ensures) c.judge_scanned.ensures.verdict
