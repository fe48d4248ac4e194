use Rattle.std.proofs.Common.{◌<◌, [], length, map, All}
use Rattle.lk_mentions.specs.Names.{names_at}
use Rattle.lk_nested.specs.Halts.{unmet}
use Rattle.lk_nested.specs.Nestings.{AreSpines}
use Rattle.lk_nested.specs.Outermost.{AreGathered}
use Rattle.lk_seek.specs.Visits.{turns}
use Rattle.lk_store.specs.Contents.{tree_at}
use Rattle.lk_nested.proofs.Gathering.{IsGathering}
use Rattle.lk_nested.proofs.outermost.gather.Given as goal

abbrev pub invariant-walk : goal.invariant-walk
invariant-walk g l =
    let c = g.A.Terms.contents l.asks in
    let w = (g.A.Asks.standing l.asks).place in
    let ns = names_at c l.names in
    record {
      found_in : All (λ o. o < length c.trees) l.found.items;
      done : AreGathered w ns c l.found.items l.walk.done;
      spines : AreSpines c l.walk.spines;
      gathers : IsGathering w ns c l.fn.e (map (tree_at c) l.found.items) l.walk.stack.items;
    }

abbrev pub decreases-walk : goal.decreases-walk
decreases-walk g l =
    let c = g.A.Terms.contents l.asks in
    turns (unmet (g.A.Asks.standing l.asks).place (names_at c l.names) [] c) l.walk.stack.items
