use Rattle.std.proofs.Common.{◌≡◌, length, map}
use Rattle.lk_env.specs.Units.{library_of}
use Rattle.lk_verdict.specs.Held.{verdict}
use Rattle.lk_session.specs.Answers.{AreFrom}
use Rattle.lk_session.proofs.checking.check_one_by_one.Given as goal

abbrev pub invariant-loop-k : goal.invariant-loop-k
invariant-loop-k g l =
    (length l.verdicts.items ≡ length l.initial.verdicts.items)
    × AreFrom (library_of l.library) (g.C.Checks.budget_of l.checks) l.first (map verdict l.verdicts.items)
