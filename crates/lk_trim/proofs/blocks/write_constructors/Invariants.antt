use Rattle.std.proofs.Common.{◌≡◌, length, map}
use Rattle.std.specs.Prelude.{All}
use Rattle.lk_env.specs.Units.{constructor_at, IsConstructorIn}
use Rattle.lk_trim.specs.Units.{write_ctors}
use Rattle.lk_trim.specs.Stored.{file_at, AreNumbersIn}
use Rattle.lk_trim.proofs.blocks.write_constructors.Given as goal

abbrev pub invariant-loop-k : goal.invariant-loop-k
invariant-loop-k g l =
    let c = g.T.Terms.contents l.store in
    record {
      numbers : AreNumbersIn c l.writer.numbers;
      known : All (IsConstructorIn c) l.rest;
      leads : write_ctors (map (constructor_at c) l.rest) (file_at c l.writer) ≡ write_ctors (map (constructor_at c) l.constructors) (file_at c l.fn.writer);
    }

abbrev pub decreases-loop-k : goal.decreases-loop-k
decreases-loop-k g l = length l.rest
