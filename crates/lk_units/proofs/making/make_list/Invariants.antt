use Rattle.std.proofs.Common.{◌≡◌, ◌<◌, ◌++◌, length, map}
use Rattle.std.specs.Prelude.{All}
use Rattle.lk_store.specs.Contents.{level_at, list_at, Extends}
use Rattle.lk_units.proofs.making.make_list.Given as goal

abbrev pub invariant-up : goal.invariant-up
invariant-up g l =
    let c = g.T.Terms.contents l.fn.store in
    let d = g.T.Terms.contents l.store in
    record {
      grown : Extends c d;
      rest : g.T.Terms.rest l.store ≡ g.T.Terms.rest l.fn.store;
      known : l.list < length d.lists;
      levels_known : All (λ e. e < length c.levels) l.levels.items;
      all : map (level_at c) l.levels.items ++ list_at d l.list ≡ map (level_at c) l.fn.levels.items;
    }

abbrev pub decreases-up : goal.decreases-up
decreases-up g l = length l.levels.items
