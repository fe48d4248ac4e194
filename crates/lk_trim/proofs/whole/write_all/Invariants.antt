use Rattle.std.proofs.Common.{◌≡◌, length}
use Rattle.lk_store.specs.Store.{contents_of}
use Rattle.lk_env.specs.Units.{library_of}
use Rattle.lk_env.specs.Budgets.{budgets_of}
use Rattle.lk_trim.specs.Whole.{write_all, kept_of}
use Rattle.lk_trim.specs.Stored.{file_at, AreNumbersIn}
use Rattle.lk_trim.proofs.whole.write_all.Given as goal

abbrev pub invariant-loop-n : goal.invariant-loop-n
invariant-loop-n l =
    let c = contents_of l.library.tables in
    record {
      numbers : AreNumbersIn c l.writer.numbers;
      leads : write_all (kept_of (library_of l.library) (budgets_of l.library) l.rest) (file_at c l.writer) ≡ write_all (kept_of (library_of l.library) (budgets_of l.library) l.units) (file_at c l.fn.writer);
    }

abbrev pub decreases-loop-n : goal.decreases-loop-n
decreases-loop-n l = length l.rest
