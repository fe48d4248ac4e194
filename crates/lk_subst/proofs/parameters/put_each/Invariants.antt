use Rattle.std.proofs.Common.{◌≡◌, ◌<◌, ◌++◌, length, map}
use Rattle.std.specs.Prelude.{All}
use Rattle.lk_store.specs.Contents.{level_at, list_at, Extends}
use Rattle.lk_subst.specs.Parameters.{putting}
use Rattle.lk_subst.proofs.parameters.put_each.Given as goal

abbrev pub invariant-down : goal.invariant-down
invariant-down g l =
    let c = g.T.Terms.contents l.terms in
    record {
      known : l.at < length c.lists;
      found_known : All (λ e. e < length c.levels) l.found.items;
      all : map (level_at c) l.found.items ++ list_at c l.at ≡ list_at c l.levels;
    }

abbrev pub decreases-down : goal.decreases-down
decreases-down g l = length (list_at (g.T.Terms.contents l.terms) l.at)

abbrev pub invariant-up : goal.invariant-up
invariant-up g l =
    let c = g.T.Terms.contents l.fn.terms in
    let f = putting c l.params l.values in
    record {
      grown : Extends c (g.T.Terms.contents l.terms);
      rest : g.T.Terms.rest l.terms ≡ g.T.Terms.rest l.fn.terms;
      known : l.at < length (g.T.Terms.contents l.terms).lists;
      found_known : All (λ e. e < length c.levels) l.found.items;
      all : map f (map (level_at c) l.found.items) ++ list_at (g.T.Terms.contents l.terms) l.at ≡ map f (list_at c l.levels);
    }

abbrev pub decreases-up : goal.decreases-up
decreases-up g l = length l.found.items
