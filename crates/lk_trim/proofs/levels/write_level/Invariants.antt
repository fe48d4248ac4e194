use Rattle.std.proofs.Common.{◌≡◌}
use Rattle.lk_store.specs.Contents.{level_at}
use Rattle.lk_trim.specs.Levels.{write_level}
use Rattle.lk_trim.specs.Stored.{file_at, AreNumbersIn}
use Rattle.lk_trim.specs.Walks.{level_walk, rest_of, AreVisits, turns}
use Rattle.lk_trim.proofs.levels.write_level.Given as goal

abbrev pub invariant-walk : goal.invariant-walk
invariant-walk g l =
    let c = g.T.Terms.contents l.store in
    record {
      numbers : AreNumbersIn c l.writer.numbers;
      known : AreVisits (level_walk c) l.stack.items;
      leads : rest_of (level_walk c) l.stack.items (file_at c l.writer) ≡ write_level (level_at c l.level) (file_at c l.fn.writer);
    }

abbrev pub decreases-walk : goal.decreases-walk
decreases-walk g l = turns (level_walk (g.T.Terms.contents l.store)) l.stack.items
