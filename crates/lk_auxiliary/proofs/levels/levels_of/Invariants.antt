use Rattle.std.proofs.Common.{length}
use Rattle.lk_store.specs.Contents.{list_at}
use Rattle.lk_ask.proofs.Levels.{AreTaken}
use Rattle.lk_auxiliary.proofs.levels.levels_of.Given as goal

abbrev pub invariant-list : goal.invariant-list
invariant-list g l =
    let c = g.T.Terms.contents l.terms in
    record { taken : AreTaken c l.found.items l.rest (list_at c l.fn.list) }

abbrev pub decreases-list : goal.decreases-list
decreases-list g l = length (list_at (g.T.Terms.contents l.terms) l.rest)
