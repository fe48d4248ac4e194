use Rattle.std.proofs.Common.{◌≡◌, ◌<◌, ◌++◌, length, map, All}
use Rattle.lk_tree.specs.Tree.{param}
use Rattle.lk_store.specs.Contents.{name_at, list_at, Extends}
use Rattle.lk_block.proofs.parameters.parameter_levels.Given as goal

abbrev pub invariant-names : goal.invariant-names
invariant-names g l =
    let before = g.T.Terms.contents l.fn.terms in
    let now = g.T.Terms.contents l.terms in
    record {
      keeps : Extends before now;
      same_rest : g.T.Terms.rest l.terms ≡ g.T.Terms.rest l.fn.terms;
      left_in : All (λ n. n < length before.names) l.left;
      list_in : l.list < length now.lists;
      leads : map param (map (name_at before) l.left) ++ list_at now l.list ≡ map param (map (name_at before) l.fn.names);
    }

abbrev pub decreases-names : goal.decreases-names
decreases-names g l = length l.left
