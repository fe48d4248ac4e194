use Rattle.std.proofs.Common.{length, arith}
use Rattle.lk_level_order.specs.Covers.{IsListed, IsAmong}
use Rattle.lk_level_order.specs.declared.listing.Cases.{Cases}
use Rattle.lk_level_order.proofs.Listed.{listed_stays, joined_stays}
use Rattle.lk_level_order.proofs.listing.both.Goals as goal

pub returns-clause-joined : goal.returns-clause-joined
returns-clause-joined c case h =
    let cases : Cases = record { first = c.len-first.result; end = c.len.result } in
    let old = c.join.new.rows in
    let new = c.join-2.new.rows in
    let grows = c.in_ok-join-2.ensures.grows in
    let more = grows.longer in
    let end = c.len.ensures.len in
    joined_stays c.args.rights c.args.support (IsListed old cases.first (length old)) (IsAmong new cases) case
    (λ n i. listed_stays old new cases.first (length old) cases.end n grows (omega arith) i) (c.in_ok-join.ensures.joined case h)
