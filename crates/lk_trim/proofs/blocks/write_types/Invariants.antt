use Rattle.std.proofs.Common.{◌≡◌, length, map}
use Rattle.std.specs.Prelude.{All}
use Rattle.lk_store.specs.Contents.{name_at}
use Rattle.lk_env.specs.Units.{type_at, IsTypeIn}
use Rattle.lk_trim.specs.Units.{write_types}
use Rattle.lk_trim.specs.Stored.{file_at, AreNumbersIn}
use Rattle.lk_trim.proofs.blocks.write_types.Given as goal

abbrev pub invariant-loop-t : goal.invariant-loop-t
invariant-loop-t g l =
    let c = g.T.Terms.contents l.store in
    record {
      numbers : AreNumbersIn c l.writer.numbers;
      known : All (IsTypeIn c) l.rest;
      leads : write_types (map (name_at c) l.family) (map (type_at c) l.rest) (file_at c l.writer) ≡ write_types (map (name_at c) l.family) (map (type_at c) l.types) (file_at c l.fn.writer);
    }

abbrev pub decreases-loop-t : goal.decreases-loop-t
decreases-loop-t g l = length l.rest
