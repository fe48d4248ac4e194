use Rattle.lk_store.specs.Contents.{tree_at}
use Rattle.lk_spine.specs.Reading.{left_depth}
use Rattle.lk_lazy.specs.Spines.{IsSpineWalk}
use Rattle.lk_lazy.proofs.spines.pair_up.Given as goal

abbrev pub invariant-down : goal.invariant-down
invariant-down g l = IsSpineWalk (g.T.Terms.contents l.terms) l.a l.b l.left l.right l.pairs.items

abbrev pub decreases-down : goal.decreases-down
decreases-down g l = left_depth (tree_at (g.T.Terms.contents l.terms) l.left)
