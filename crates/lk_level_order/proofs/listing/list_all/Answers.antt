use Rattle.std.proofs.Common.{rules, ◌≡◌, ◌++◌, ◌∷◌, [], arith}
use Rattle.std.proofs.lemmas.Grind.{common_steps}
use Rattle.lk_level_order.proofs.Listed.{next_cover, in_rows_more}
use Rattle.lk_level_order.proofs.listing.list_all.Goals as goal

pub loop-place-preserved : goal.loop-place-preserved
loop-place-preserved c =
    let old = c.loop-place.covers.items in
    let cover = c.in_ok-cover.cover in
    let rows = c.loop-place.rows in
    let new = c.node_cover.new.rows in
    let pushed : c.push.new.self.items ≡ old ++ cover ∷ [] = search rules in
    let count = c.loop-place.invariant.count in
    let value = c.deref.ensures.value in
    let made = c.in_ok-cover.ensures in
    record {
      count = rw pushed (grind (arith, common_steps));
      known = rw pushed (in_rows_more rows new old cover made.grows c.loop-place.invariant.known made.in_rows);
      covers = λ d different few all order.
          let before = c.loop-place.invariant.covers d different few all order in
          rw pushed (next_cover d c.args.rights c.args.parts.now rows new old c.loop-place.place cover c.get.result.now order (omega arith) count c.get.ensures made.grows before
          (made.cover d different few all (rw value before)));
    }
