use Rattle.std.proofs.Common.{◌≡◌, ◌+◌, ◌≤◌, ◌++◌, length}
use Rattle.std.specs.Prelude.{All}
use Rattle.lk_store.specs.Store.{contents_of}
use Rattle.lk_env.specs.Units.{library_of, IsUnitIn}
use Rattle.lk_text.proofs.Session.{counted_lines}
use Rattle.lk_text.proofs.submissions.add_submissions.Given as goal

abbrev pub invariant-loop-submission : goal.invariant-loop-submission
invariant-loop-submission l =
    let c = contents_of l.library.tables in
    let us = library_of l.library in
    record {
      text : l.out.items ++ counted_lines us c l.number l.rest l.left l.said ≡ l.fn.out.items ++ counted_lines us c 0 l.submissions l.library.units l.verdicts;
      known : All (IsUnitIn c) l.left;
      few : l.number + length l.left ≤ length l.library.units;
    }

abbrev pub decreases-loop-submission : goal.decreases-loop-submission
decreases-loop-submission l = length l.rest
