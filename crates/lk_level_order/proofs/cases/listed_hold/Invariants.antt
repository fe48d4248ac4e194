use Rattle.std.proofs.Common.{◌≡◌, ℕ, length}
use Rattle.lk_store.specs.Contents.{Contents}
use Rattle.lk_level_order.specs.Placing.{IsOrder}
use Rattle.lk_level_order.specs.Values.{digits}
use Rattle.lk_level_order.specs.Cases.{IsTestedOf}
use Rattle.lk_level_order.specs.Covers.{IsListed}
use Rattle.lk_level_order.proofs.cases.listed_hold.Given as goal

abbrev pub invariant-loop-i : goal.invariant-loop-i
invariant-loop-i l = (d : Contents) → IsOrder d l.parts → l.count ≡ length d.names → (case : ℕ) → IsListed l.rows l.fn.cases.first l.i case
    → IsTestedOf d l.question l.rights (digits l.count case)
