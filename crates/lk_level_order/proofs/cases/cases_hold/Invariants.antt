use Rattle.std.proofs.Common.{◌≡◌, ◌<◌, ℕ, length}
use Rattle.lk_store.specs.Contents.{Contents}
use Rattle.lk_level_order.specs.Placing.{IsOrder}
use Rattle.lk_level_order.specs.Values.{digits}
use Rattle.lk_level_order.specs.Cases.{IsTestedOf}
use Rattle.lk_level_order.proofs.cases.cases_hold.Given as goal

abbrev pub invariant-loop-case : goal.invariant-loop-case
invariant-loop-case l = (d : Contents) → IsOrder d l.parts → l.count ≡ length d.names → (n : ℕ) → n < l.case → IsTestedOf d l.question l.rights (digits l.count n)
