use Rattle.std.proofs.Common.{◌≡◌, ◌<◌, length}
use Rattle.lk_store.specs.Contents.{list_at}
use Rattle.lk_trim.specs.Levels.{write_levels}
use Rattle.lk_trim.specs.Stored.{file_at, AreNumbersIn}
use Rattle.lk_trim.proofs.levels.write_levels.Given as goal

abbrev pub invariant-all : goal.invariant-all
invariant-all g l =
    let c = g.T.Terms.contents l.store in
    record {
      numbers : AreNumbersIn c l.writer.numbers;
      at_in : l.at < length c.lists;
      leads : write_levels (list_at c l.at) (file_at c l.writer) ≡ write_levels (list_at c l.list) (file_at c l.fn.writer);
    }

abbrev pub decreases-all : goal.decreases-all
decreases-all g l = length (list_at (g.T.Terms.contents l.store) l.at)
