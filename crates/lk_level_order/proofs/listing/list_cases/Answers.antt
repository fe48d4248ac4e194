use Rattle.std.proofs.Common.{take, true, refl}
use Rattle.std.proofs.lemmas.Result.{IfOk-weaker}
use Rattle.lk_store.specs.Contents.{level_at}
use Rattle.lk_level_order.specs.Covers.{IsAmong}
use Rattle.lk_level_order.proofs.Covered.{enough_more}
use Rattle.lk_level_order.proofs.Listed.{covers_at, joined_surely}
use Rattle.lk_level_order.proofs.listing.list_cases.Goals as goal

pub returns-clause-left : goal.returns-clause-left
returns-clause-left c =
    let k = c.args.rights in
    let rows = c.list_all.new.rows in
    let new = c.both.new.rows in
    let left = c.in_ok-left.left in
    let value = c.deref.ensures.value in
    IfOk-weaker c.both.result _ _
    (λ v h d different few count order within.
    let covers = c.in_ok-list_all.ensures.covers d different few count order in
    let cover = covers_at d k rows c.list_all.new.covers.items c.args.places.left left covers (rw value at c.in_ok-left.ensures) in
    enough_more (take k d.names) (IsAmong rows left.cases) (IsAmong new v) (level_at d c.args.places.left)
    (λ case i. joined_surely k (record { surely = true; by = 0 }) (IsAmong new v) case refl (h case i)) (cover.cases within))
    c.both.ensures.joined

pub returns-clause-right : goal.returns-clause-right
returns-clause-right c =
    let k = c.args.rights in
    let rows = c.list_all.new.rows in
    let new = c.both.new.rows in
    let right = c.in_ok-right.right in
    let value = c.deref-2.ensures.value in
    IfOk-weaker c.both.result _ _
    (λ v own d different few count order within.
    let covers = c.in_ok-list_all.ensures.covers d different few count order in
    let cover = covers_at d k rows c.list_all.new.covers.items c.args.places.right right covers (rw value at c.in_ok-right.ensures) in
    enough_more (take k d.names) (IsAmong rows right.cases) (IsAmong new v) (level_at d c.args.places.right) own (cover.cases within))
    c.both.ensures.own
