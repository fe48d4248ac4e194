use Rattle.std.proofs.Common.{ℕ, ◌≡◌, ◌<◌, vec_len, slice_index_or, take}
use Rattle.lk_verdict.specs.declared.verdict.Verdict.{Verdict}
use Rattle.leancheck.specs.Drawn.{given}
use Rattle.leancheck.proofs.order.fill.Given as goal

abbrev pub invariant-loop-i : goal.invariant-loop-i
invariant-loop-i l = (vec_len l.verdicts ≡ vec_len l.fn.verdicts) × ((n : ℕ) (d : Verdict) → n < vec_len l.fn.verdicts → slice_index_or l.verdicts.items n d ≡ given n (take l.i l.answers))
