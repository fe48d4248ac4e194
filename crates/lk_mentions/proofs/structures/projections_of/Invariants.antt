use Rattle.std.proofs.Common.{◌≡◌, ◌<◌, length, map, All}
use Rattle.lk_rulebook.specs.Structures.{projections}
use Rattle.lk_store.specs.Contents.{name_at, tree_at, Extends}
use Rattle.lk_mentions.proofs.structures.projections_of.Given as goal

abbrev pub invariant-loop-j : goal.invariant-loop-j
invariant-loop-j g l =
    let before = g.T.Terms.contents l.fn.terms in
    let now = g.T.Terms.contents l.terms in
    record {
      keeps : Extends before now;
      same_rest : g.T.Terms.rest l.terms ≡ g.T.Terms.rest l.fn.terms;
      known : All (λ e. e < length now.trees) l.found.items;
      are : map (tree_at now) l.found.items ≡ projections (name_at before l.fn.inductive) (tree_at before l.fn.m) 0 l.j;
    }
