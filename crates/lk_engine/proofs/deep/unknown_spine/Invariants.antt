use Rattle.std.proofs.Common.{◌<◌, length}
use Rattle.lk_store.specs.Contents.{tree_at}
use Rattle.lk_spine.specs.Reading.{left_depth}
use Rattle.lk_engine.specs.Lookouts.{AreTrueAt}
use Rattle.lk_engine.proofs.deep.unknown_spine.Given as goal

abbrev pub invariant-functions : goal.invariant-functions
invariant-functions g l =
    let c = g.T.Terms.contents l.lookout.terms in
    record {
      function_in : l.function < length c.trees;
      ahead_in : l.ahead < length c.trees;
      entries : AreTrueAt l.lookout c l.memo;
    }

abbrev pub decreases-functions : goal.decreases-functions
decreases-functions g l = left_depth (tree_at (g.T.Terms.contents l.lookout.terms) l.ahead)
