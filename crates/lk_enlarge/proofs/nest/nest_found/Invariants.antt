use Rattle.std.proofs.Common.{◌≡◌, ◌<◌, length, map, All}
use Rattle.lk_store.specs.Contents.{tree_at, Extends}
use Rattle.lk_nested.specs.Joined.{occurrences}
use Rattle.lk_nested.specs.Outermost.{last_of}
use Rattle.lk_nested.specs.Pairs.{pairs_at, ArePairsIn}
use Rattle.lk_auxiliary.specs.Auxiliaries.{auxs_at, IsAuxiliaryIn}
use Rattle.lk_auxiliary.specs.Settings.{setting_at}
use Rattle.lk_enlarge.specs.Occurrences.{IsVisited}
use Rattle.lk_enlarge.proofs.Loops.{CameTo}
use Rattle.lk_enlarge.proofs.Telling.{AreLeft}
use Rattle.lk_enlarge.proofs.nest.nest_found.Given as goal

abbrev pub invariant-unmet : goal.invariant-unmet
invariant-unmet g l =
    let before = g.F.Terms.contents l.fn.asks in
    let now = g.F.Terms.contents l.asks in
    let w = (g.F.Asks.standing l.fn.asks).place in
    let plain = setting_at before l.fn.setting in
    record {
      keeps : Extends before now;
      same_rest : g.F.Terms.rest l.asks ≡ g.F.Terms.rest l.fn.asks;
      auxs_in : All (IsAuxiliaryIn now) l.met.auxs.items;
      pairs_in : ArePairsIn now l.met.pairs.items;
      visited_in : IsVisited now l.fn.setting l.met.visited;
      came : CameTo w plain (tree_at before l.fn.e) (auxs_at before l.fn.met.auxs.items) (auxs_at now l.met.auxs.items) (pairs_at now l.met.pairs.items);
      rest_in : All (λ o. o < length before.trees) l.rest;
      left : AreLeft w plain.names (tree_at before l.fn.e) (occurrences (pairs_at now l.met.pairs.items)) (map (tree_at before) l.rest) (last_of l.fn.refused);
    }

abbrev pub decreases-unmet : goal.decreases-unmet
decreases-unmet g l = length l.rest
