use Rattle.std.proofs.Common.{◌≡◌, length, map}
use Rattle.std.specs.Prelude.{All}
use Rattle.lk_store.specs.Contents.{name_at}
use Rattle.lk_env.specs.Units.{recursor_at, IsRecursorIn}
use Rattle.lk_trim.specs.Units.{write_recs}
use Rattle.lk_trim.specs.Stored.{file_at, AreNumbersIn}
use Rattle.lk_trim.proofs.recursors.write_recursors.Given as goal

abbrev pub invariant-loop-r : goal.invariant-loop-r
invariant-loop-r g l =
    let c = g.T.Terms.contents l.store in
    record {
      numbers : AreNumbersIn c l.writer.numbers;
      known : All (IsRecursorIn c) l.rest;
      leads : write_recs (map (name_at c) l.family) (map (recursor_at c) l.rest) (file_at c l.writer) ≡ write_recs (map (name_at c) l.family) (map (recursor_at c) l.recursors) (file_at c l.fn.writer);
    }

abbrev pub decreases-loop-r : goal.decreases-loop-r
decreases-loop-r g l = length l.rest
