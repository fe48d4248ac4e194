use Rattle.std.proofs.Common.{◌≡◌, ◌<◌, ◌++◌, length, map}
use Rattle.lk_store.specs.Contents.{list_at}
use Rattle.lk_trim.specs.Written.{fields}
use Rattle.lk_trim.specs.Levels.{level_number}
use Rattle.lk_trim.specs.Stored.{written_at}
use Rattle.lk_trim.proofs.levels.add_level_numbers.Given as goal

abbrev pub invariant-all : goal.invariant-all
invariant-all g l =
    let c = g.T.Terms.contents l.store in
    let w = written_at c l.numbers in
    record {
      at_in : l.at < length c.lists;
      leads : l.out.items ++ fields (map (level_number w) (list_at c l.at)) ≡ l.fn.out.items ++ fields (map (level_number w) (list_at c l.list));
    }

abbrev pub decreases-all : goal.decreases-all
decreases-all g l = length (list_at (g.T.Terms.contents l.store) l.at)
