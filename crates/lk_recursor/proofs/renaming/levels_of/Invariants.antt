use Rattle.std.proofs.Common.{◌≡◌, ◌<◌, ◌++◌, length, map, All}
use Rattle.lk_tree.specs.Tree.{param}
use Rattle.lk_store.specs.Contents.{name_at, level_at, Extends}
use Rattle.lk_recursor.proofs.renaming.levels_of.Given as goal

abbrev pub invariant-names : goal.invariant-names
invariant-names g l =
    let before = g.T.Terms.contents l.fn.terms in
    let now = g.T.Terms.contents l.terms in
    record {
      keeps : Extends before now;
      same_rest : g.T.Terms.rest l.terms ≡ g.T.Terms.rest l.fn.terms;
      rest_in : All (λ n. n < length before.names) l.rest;
      levels_in : All (λ i. i < length now.levels) l.levels.items;
      so_far : map (level_at now) l.levels.items ++ map param (map (name_at before) l.rest) ≡ map param (map (name_at before) l.fn.names);
    }

abbrev pub decreases-names : goal.decreases-names
decreases-names g l = length l.rest
