use Rattle.std.proofs.Common.{◌≡◌, ◌+◌, ◌≤◌, ◌++◌, length, map}
use Rattle.std.specs.Prelude.{All}
use Rattle.lk_store.specs.Store.{contents_of}
use Rattle.lk_env.specs.Units.{library_at, library_of, IsUnitIn}
use Rattle.lk_trace.specs.Outcomes.{outcome_at}
use Rattle.lk_text.specs.Replayed.{outcome_lines}
use Rattle.lk_text.proofs.outcomes.add_outcome_lines.Given as goal

abbrev pub invariant-loop-unit : goal.invariant-loop-unit
invariant-loop-unit l =
    let c = contents_of l.fn.library.tables in
    record {
      text : l.out.items ++ outcome_lines l.number (library_at c l.left) (map outcome_at l.rest)
          ≡ l.fn.out.items ++ outcome_lines 0 (library_of l.fn.library) (map outcome_at l.fn.outcomes);
      known : All (IsUnitIn c) l.left;
      few : l.number + length l.left ≤ length l.fn.library.units;
    }

abbrev pub decreases-loop-unit : goal.decreases-loop-unit
decreases-loop-unit l = length l.left
