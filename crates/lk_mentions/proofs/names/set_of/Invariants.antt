use Rattle.std.proofs.Common.{◌≡◌, ℕ, take, nat_eq}
use Rattle.std.specs.HashSet.{contains}
use Rattle.lk_mentions.specs.Names.{any_number}
use Rattle.lk_mentions.proofs.names.set_of.Given as goal

abbrev pub invariant-loop-number : goal.invariant-loop-number
invariant-loop-number l = (q : ℕ) → contains nat_eq l.set q ≡ any_number q (take l.number-index l.numbers)
