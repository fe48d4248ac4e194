use Rattle.std.proofs.Common.{◌≡◌}
use Rattle.lk_callers.specs.Owned.{bytes_in}
use Rattle.lk_callers.specs.Answered.{IsCalled}
use Rattle.lk_callers.proofs.calling.Called.submit_all.Given as goal

abbrev pub invariant-loop-text : goal.invariant-loop-text
invariant-loop-text g l = (l.self.number ≡ l.fn.self.number)
    × IsCalled g.T.Reads.stated (bytes_in l.texts) l.turns (g.C.Checks.budget_of l.checks) l.text l.self.number l.self
