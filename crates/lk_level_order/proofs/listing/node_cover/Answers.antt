use Rattle.std.proofs.Common.{take, true, refl}
use Rattle.std.proofs.lemmas.Result.{IfOk-weaker}
use Rattle.lk_store.specs.Contents.{level_at}
use Rattle.lk_level_order.proofs.Names.{different_take}
use Rattle.lk_level_order.proofs.Listed.{cover_zero, cover_succ, cover_max, cover_imax, covers_at, take_length}
use Rattle.lk_level_order.proofs.listing.node_cover.Goals as goal

pub returns-in-Zero-clause-cover : goal.returns-in-Zero-clause-cover
returns-in-Zero-clause-cover c =
    let is = c.in-Zero.is in
    IfOk-weaker c.one_case.result _ _ (λ v h d different few count covers. rw is (cover_zero (take c.args.rights d.names) c.one_case.new.rows v h)) c.one_case.ensures.cover

pub returns-in_ok-below-in-Succ-clause-cover : goal.returns-in_ok-below-in-Succ-clause-cover
returns-in_ok-below-in-Succ-clause-cover c d different few count covers =
    let is = c.in-Succ.is in
    let rows = c.args.rows.now in
    let below = c.in_ok-below-in-Succ.below in
    rw is (cover_succ (take c.args.rights d.names) rows below (record { surely = true; by = 0 }) (level_at d c.in-Succ.a) refl
    (covers_at d c.args.rights rows c.args.covers.now c.in-Succ.a below covers c.in_ok-below-in-Succ.ensures))

pub returns-in_ok-cases-in-Max-clause-cover : goal.returns-in_ok-cases-in-Max-clause-cover
returns-in_ok-cases-in-Max-clause-cover c d different few count covers =
    let is = c.in-Max.is in
    let k = c.args.rights in
    let rows = c.args.rows.now in
    let left = c.in_ok-left-in-Max.left in
    let right = c.in_ok-right-in-Max.right in
    rw is (cover_max (take k d.names) k rows c.both.new.rows left right c.in_ok-cases-in-Max.cases (record { surely = true; by = 0 }) (level_at d c.in-Max.a) (level_at d c.in-Max.b)
    (covers_at d k rows c.args.covers.now c.in-Max.a left covers c.in_ok-left-in-Max.ensures) (covers_at d k rows c.args.covers.now c.in-Max.b right covers c.in_ok-right-in-Max.ensures)
    c.in_ok-cases-in-Max.ensures.joined c.in_ok-cases-in-Max.ensures.own c.either-support.result refl c.either-support.ensures.surely c.either-support.ensures.by)

pub returns-in_ok-cases-in-IMax-clause-cover : goal.returns-in_ok-cases-in-IMax-clause-cover
returns-in_ok-cases-in-IMax-clause-cover c d different few count covers =
    let is = c.in-IMax.is in
    let k = c.args.rights in
    let rows = c.args.rows.now in
    let left = c.in_ok-left-in-IMax.left in
    let right = c.in_ok-right-in-IMax.right in
    rw is (cover_imax (take k d.names) k rows c.both-in-IMax.new.rows left right c.in_ok-cases-in-IMax.cases right.support (level_at d c.in-IMax.a) (level_at d c.in-IMax.b)
    (covers_at d k rows c.args.covers.now c.in-IMax.a left covers c.in_ok-left-in-IMax.ensures) (covers_at d k rows c.args.covers.now c.in-IMax.b right covers c.in_ok-right-in-IMax.ensures)
    c.in_ok-cases-in-IMax.ensures.joined c.in_ok-cases-in-IMax.ensures.own (different_take k d.names different) (take_length k d.names few) refl)
