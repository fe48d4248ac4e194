use Rattle.std.proofs.Common.{◌≡◌, ◌<◌, ◌++◌, List, length, map, All}
use Rattle.lk_tree.specs.Tree.{Tree}
use Rattle.lk_store.specs.Contents.{tree_at, Extends}
use Rattle.lk_recursor.specs.Telescopes.{IsTelescope}
use Rattle.lk_recursor.proofs.Telescopes.{IsGrowing}
use Rattle.lk_recursor.proofs.telescope.add_locals.Given as goal

abbrev pub invariant-locals : goal.invariant-locals
invariant-locals g l =
    let before = g.T.Terms.contents l.fn.terms in
    let now = g.T.Terms.contents l.terms in
    record {
      keeps : Extends before now;
      same_rest : g.T.Terms.rest l.terms ≡ g.T.Terms.rest l.fn.terms;
      left_in : All (λ x. x < length before.trees) l.left;
      same_outer : l.telescope.runs.outer ≡ l.fn.telescope.runs.outer;
      grows : (xs : List Tree) → IsTelescope before xs l.fn.telescope → IsGrowing now (map (tree_at before) l.left) (xs ++ map (tree_at before) l.fn.locals) l.telescope;
    }

abbrev pub decreases-locals : goal.decreases-locals
decreases-locals g l = length l.left
