use Rattle.std.proofs.Common.{◌≡◌, ◌++◌, length, map}
use Rattle.std.specs.Prelude.{All}
use Rattle.lk_store.specs.Store.{contents_of}
use Rattle.lk_env.specs.Units.{library_at, library_of, IsUnitIn}
use Rattle.lk_text.specs.Marks.{mark_of, marks_of}
use Rattle.lk_text.proofs.under.marks_of.Given as goal

abbrev pub invariant-loop-unit : goal.invariant-loop-unit
invariant-loop-unit l =
    let c = contents_of l.library.tables in
    record {
      made : l.marks.items ++ map (mark_of l.policy) (library_at c l.left) ≡ marks_of l.policy (library_of l.library);
      known : All (IsUnitIn c) l.left;
    }

abbrev pub decreases-loop-unit : goal.decreases-loop-unit
decreases-loop-unit l = length l.left
