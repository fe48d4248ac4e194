use Rattle.std.proofs.Common.{◌≡◌, ◌<◌, arith}
use Rattle.lk_recheck.specs.Counts.{room_by}
use Rattle.lk_recheck.proofs.Spreading.{passing_begins, passing_on, passing_ends, link_at, link_in, link_back}
use Rattle.lk_recheck.proofs.hitting.pass_on.Goals as goal

pub back-init : goal.back-init
back-init c = passing_begins (room_by c.args.counts.now) c.args.sources.now c.args.target c.args.hits.now c.requires.table.linked c.last-place.result c.last-place.ensures

pub thing_at-requires-clause-slot_in : goal.thing_at-requires-clause-slot_in
thing_at-requires-clause-slot_in c =
    link_in (room_by c.args.counts.now) c.args.sources.now c.args.target c.args.hits.now c.requires.table.linked c.back.hits c.back.place c.index-link.result.now c.back.invariant
    c.back-test.true c.index-link.ensures _ c.requires.table.as_many

pub back-smaller : goal.back-smaller
back-smaller c =
    link_back (room_by c.args.counts.now) c.args.sources.now c.args.target c.args.hits.now c.requires.table.linked c.back.hits c.back.place c.index-link.result.now c.back.invariant
    c.back-test.true c.index-link.ensures

pub back-preserved : goal.back-preserved
back-preserved c =
    let more : 0 < c.back.place = omega (arith, c.back-test.true) in
    let at =
    link_at (room_by c.args.counts.now) c.args.sources.now c.args.target c.args.hits.now c.requires.table.linked c.back.hits c.back.place c.index-link.result.now c.back.invariant
    c.back-test.true c.index-link.ensures in
    passing_on (room_by c.args.counts.now) c.args.sources.now c.args.target c.args.hits.now c.requires.table.linked c.back.hits c.enter.new.self c.back.place c.index-link.result.now c.thing_at.result
    c.back.invariant more at c.thing_at.ensures c.in_ok-enter.ensures

pub returns : goal.returns
returns c =
    let none : c.back.place ≡ 0 = omega (arith, c.back-test.false) in
    passing_ends (room_by c.args.counts.now) c.args.sources.now c.args.target c.args.hits.now c.requires.table.linked c.back.hits c.back.place none c.back.invariant
