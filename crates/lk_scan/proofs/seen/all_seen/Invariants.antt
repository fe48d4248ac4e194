use Rattle.std.proofs.Common.{◌≡◌, ℕ, take}
use Rattle.lk_scan.specs.Seen.{has_number, any_number}
use Rattle.lk_scan.proofs.seen.all_seen.Given as goal

abbrev pub invariant-loop-number : goal.invariant-loop-number
invariant-loop-number l = (q : ℕ) → has_number l.seen q ≡ any_number q (take l.number-index l.numbers)
